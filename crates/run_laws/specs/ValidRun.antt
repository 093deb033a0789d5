-- What holds of a world at each moment of a legal history.
use Rattle.std.specs.Prelude.{◌≡◌, ◌≤◌, true, find, is_some, Some}
use Rattle.aq_base.specs.declared.DbId.{DbId}
use Rattle.aq_base.specs.declared.limits.TheConstants.{MOMENT_LIMIT}
use Rattle.queue_rows.specs.Rows.{find_message, slot_of}
use Rattle.queue_rows.specs.Settling.{is_ready}
use Rattle.queue_rows.specs.Propagating.{is_schedule_of}
use Rattle.queue_rows.specs.declared.tables.Tables.{Tables}
use Rattle.queue_rows.specs.declared.rows.MsgRow.{MsgRow}
use Rattle.queue_rows.specs.declared.rows.SlotRow.{SlotRow}
use Rattle.queue_rows.specs.declared.rows.ScheduleRow.{ScheduleRow}
use Rattle.queue_rows.specs.declared.history.SlotRef.{SlotRef}
use Rattle.history_laws.specs.ValidWorld.{AreScripts, IsRight}
use Rattle.history_laws.specs.LocalMarks.{MarksAreLocal}
use Rattle.queue_rows.specs.World.{World, Transit, database_at}

-- A slot that is being sent is there and ready, goes to the other database, and has its schedule, which failed fifteen times in a row at
-- most.
pub record IsBeingSent (t : Tables) (at : SlotRef) : Type 0 where
  pub message : MsgRow
  pub slot : SlotRow
  pub schedule : ScheduleRow
  pub message_is : find_message t at.id ≡ Some message
  pub slot_is : slot_of message at.slot ≡ Some slot
  pub ready : is_ready slot.state ≡ true
  pub remote : is_some slot.address ≡ true
  pub schedule_is : find (is_schedule_of message.queue slot) t.schedules ≡ Some schedule
  pub few : schedule.failures ≤ 15

-- Both databases are right, and the sessions have marked none of their slots that go to the other one; the moment is none past the
-- greatest; the scripts are as they may be; and if a slot is being sent, it is as such a slot is.
pub record IsValidWorld (w : World) : Type 0 where
  pub databases : (db : DbId) → IsRight (database_at db w).tables db (database_at db w).next w.moment w.sessions
  pub local : (db : DbId) → MarksAreLocal (database_at db w).tables db w.sessions
  pub last : w.moment ≤ MOMENT_LIMIT
  pub scripts : AreScripts w.scripts
  pub sent : (t : Transit) → w.transit ≡ Some t → IsBeingSent (database_at t.slot.db w).tables t.slot
