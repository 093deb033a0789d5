-- The laws of what propagation commits: a copy at the destination, and a confirmation at the origin.
use Rattle.std.specs.Prelude.{◌≡◌, ◌≤◌, ◌<◌, ℕ, true, false, Some, is_some}
use Rattle.aq_base.specs.declared.limits.TheConstants.{MOMENT_LIMIT, NEXT_LIMIT}
use Rattle.queue_rows.specs.Rows.{find_queue, find_table}
use Rattle.queue_rows.specs.Settling.{is_exception}
use Rattle.queue_rows.specs.Propagating.{Parcel, copy_of, has_seen, taken_in, confirming}
use Rattle.queue_rows.specs.Valid.{is_valid, is_valid_schedule, has_right_cells, has_right_props}
use Rattle.queue_rows.specs.Fits.{fits}
use Rattle.queue_rows.specs.declared.tables.Tables.{Tables}
use Rattle.queue_rows.specs.declared.rows.TableRow.{TableRow}
use Rattle.queue_rows.specs.declared.rows.QueueRow.{QueueRow}
use Rattle.queue_rows.specs.declared.rows.ScheduleRow.{ScheduleRow}
use Rattle.queue_rows.specs.declared.history.SlotRef.{SlotRef}
use Rattle.valid_laws.specs.Openness.{is_open_at}

-- ---- a copy

-- A parcel may be taken in at that moment, as a message with that id: its destination is a normal queue that is there, whose table
-- its facts fit; its recipient has a name where the table has many; the id is one that the tables have not passed; and the slot
-- that was sent was not seen before.
pub record MayTakeIn (there : Tables) (at : SlotRef) (p : Parcel) (next moment : ℕ) : Type 0 where
  pub queue : QueueRow
  pub table : TableRow
  pub queue_is : find_queue there p.to ≡ Some queue
  pub table_is : find_table there queue.table ≡ Some table
  pub normal : is_exception queue.kind ≡ false
  pub typed : has_right_cells table (copy_of table p next there.transaction moment) ≡ true
  pub props : has_right_props (copy_of table p next there.transaction moment) ≡ true
  pub named : table.multi ≡ true → is_some p.name ≡ true
  pub next_up : there.next ≤ next
  pub within : next < NEXT_LIMIT
  pub unseen : has_seen there at ≡ false

-- what may be taken in fits
abbrev pub ArrivalFits : Type 0
ArrivalFits = (there : Tables) (at : SlotRef) (p : Parcel) (next moment : ℕ) → is_valid there ≡ true → there.latest ≤ moment
    → moment ≤ MOMENT_LIMIT → MayTakeIn there at p next moment
    → fits there (record { moment = moment; changes = taken_in there at p next moment }) ≡ true

-- ---- a confirmation

-- the confirmation of an open slot fits, with what it settles, where the schedule by which it was sent is a valid one
abbrev pub ConfirmationFits : Type 0
ConfirmationFits = (t : Tables) (at : SlotRef) (schedule : ScheduleRow) (moment : ℕ) → is_valid t ≡ true → t.latest ≤ moment
    → moment ≤ MOMENT_LIMIT → is_open_at t at.id at.slot ≡ true → is_valid_schedule t schedule ≡ true
    → fits t (record { moment = moment; changes = confirming t at schedule moment }) ≡ true
