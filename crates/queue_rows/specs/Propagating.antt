-- Propagation: which slot is sent, and what its arrival and its confirmation do to tables.
use Rattle.std.specs.Prelude.{ℕ, ◌+◌, ◌-◌, ◌%◌, ◌^◌, ◌==◌, ◌&&◌, ◌||◌, pos, List, [], ◌∷◌, Bool, true, false, not, nat_le, nat_lt, min, length, find, filter, filter_map, slice_get, zip, Option, Some, None, is_some, option_map, option_and_then, if◌then◌else◌}
use Rattle.std.specs.List.{list_any, list_all}
use Rattle.std.specs.Option.{option_map_or}
use Rattle.std.specs.Str.{bytes_eq}
use Rattle.payload_records.specs.declared.kind.Kind.{Kind}
use Rattle.payload_records.specs.declared.kind.Kind.TheVariants as field_kinds
use Rattle.payload_records.specs.declared.kind.Field.{Field}
use Rattle.rule_conditions.specs.declared.facts.Facts.{Facts}
use Rattle.queue_rows.specs.Rows.{find_table, find_queue, find_message, slot_of, table_of}
use Rattle.queue_rows.specs.Settling.{is_exception, is_ready, settled}
use Rattle.queue_rows.specs.Commits.{place_of}
use Rattle.queue_rows.specs.Dequeueing.{least}
use Rattle.queue_rows.specs.Due.{slot_numbers}
use Rattle.queue_rows.specs.declared.tables.Tables.{Tables}
use Rattle.queue_rows.specs.declared.rows.TableRow.{TableRow}
use Rattle.queue_rows.specs.declared.rows.QueueRow.{QueueRow}
use Rattle.queue_rows.specs.declared.rows.ScheduleRow.{ScheduleRow}
use Rattle.queue_rows.specs.declared.rows.MsgRow.{MsgRow}
use Rattle.queue_rows.specs.declared.rows.SlotRow.{SlotRow}
use Rattle.queue_rows.specs.declared.rows.SlotState.TheVariants as states
use Rattle.queue_rows.specs.declared.rows.SeenRow.{SeenRow}
use Rattle.queue_rows.specs.declared.history.SlotRef.{SlotRef}
use Rattle.queue_rows.specs.declared.history.Cause.{Cause}
use Rattle.queue_rows.specs.declared.history.Cause.TheVariants as causes
use Rattle.queue_rows.specs.declared.history.Arrival.{Arrival}
use Rattle.queue_rows.specs.declared.history.Arrival.TheVariants.{Copied, Seen, Failed}
use Rattle.queue_rows.specs.declared.change.Change.{Change}
use Rattle.queue_rows.specs.declared.change.Change.TheVariants as changes

-- ---- when a schedule sends

-- how far it is into its period; without one, into the time since its start
abbrev pub into_period : ScheduleRow → Option ℕ → ℕ → ℕ
into_period s None moment = moment - s.start
into_period s (Some period) moment = (moment - s.start) % period

abbrev pub lasts : ScheduleRow → ℕ → Bool
lasts s moment = option_map_or (λ duration. nat_lt (into_period s s.period moment) duration) s.duration true

-- it is enabled, has begun and does not wait after a failure; and, with a duration, that has not passed in its period
abbrev pub is_open_at : ℕ → ScheduleRow → Bool
is_open_at moment s = s.enabled && nat_le s.start moment && nat_le s.next moment && lasts s moment

-- the last moment so far of those at which it sends: its start, and each time its latency has passed again
abbrev pub last_sending : ScheduleRow → ℕ → ℕ
last_sending s moment = moment - (moment - s.start) % s.latency

-- it has sent since that moment; without a latency it sends at each moment
abbrev pub has_sent_since : ScheduleRow → ℕ → ℕ → Bool
has_sent_since s since moment = (s.latency == 0) || nat_le since (last_sending s moment)

-- ---- which slot is sent

abbrev pub goes_to : List ℕ → SlotRow → Bool
goes_to to s = option_map_or (λ address. bytes_eq address to) s.address false

-- a ready slot of its destination; and it has sent since the slot was ready
abbrev pub can_send : ScheduleRow → ℕ → SlotRow → Bool
can_send schedule moment s = is_ready s.state && goes_to schedule.to s && has_sent_since schedule s.at moment

abbrev pub can_send_slot : ScheduleRow → ℕ → MsgRow → ℕ → Bool
can_send_slot schedule moment m slot = option_map_or (can_send schedule moment) (slot_of m slot) false

abbrev pub first_to_send : ScheduleRow → ℕ → MsgRow → Option ℕ
first_to_send schedule moment m = find (can_send_slot schedule moment m) (slot_numbers m)

abbrev pub can_send_of : ScheduleRow → ℕ → MsgRow → Bool
can_send_of schedule moment m = bytes_eq m.queue schedule.queue && is_some (first_to_send schedule moment m)

abbrev pub slot_to_send : ScheduleRow → ℕ → MsgRow → Option (ℕ × ℕ)
slot_to_send schedule moment m = option_map (λ slot. (m.id, slot)) (first_to_send schedule moment m)

-- what an open schedule sends: of the message with the least place the first slot
abbrev pub pick_by : Tables → ℕ → ScheduleRow → Option (ℕ × ℕ)
pick_by t moment schedule = if is_open_at moment schedule then option_and_then (slot_to_send schedule moment) (least (filter (can_send_of schedule moment) t.messages)) else None

-- the message and the slot that the first schedule sends that has one to send
unfoldable pub pick : Tables → ℕ → Option (ℕ × ℕ)
pick t moment = slice_get (filter_map (pick_by t moment) t.schedules) 0

-- ---- what is sent

-- what is sent of a slot: where it goes, its recipient's name, its message's record type and facts, and when it expires
pub record Parcel : Type 0 where
  pub to : List ℕ
  pub name : Option (List ℕ)
  pub fields : List Field
  pub facts : Facts
  pub expires : Option ℕ

-- a parcel, and the schedule by which it is sent
pub record Dispatch : Type 0 where
  pub parcel : Parcel
  pub schedule : ScheduleRow

abbrev pub is_schedule_of : List ℕ → SlotRow → ScheduleRow → Bool
is_schedule_of queue s schedule = bytes_eq schedule.queue queue && goes_to schedule.to s

abbrev pub parcel_by : MsgRow → SlotRow → List ℕ → TableRow → Parcel
parcel_by m s to table = record { to = to; name = s.name; fields = table.fields; facts = m.facts; expires = s.expires }

abbrev pub dispatch_by : MsgRow → SlotRow → Option TableRow → Option ScheduleRow → Option Dispatch
dispatch_by m s None schedule = None
dispatch_by m s (Some table) None = None
dispatch_by m s (Some table) (Some schedule) = Some (record { parcel = parcel_by m s schedule.to table; schedule = schedule })

abbrev pub dispatch_of_slot : Tables → MsgRow → SlotRow → Option Dispatch
dispatch_of_slot t m s = dispatch_by m s (table_of t m.queue) (find (is_schedule_of m.queue s) t.schedules)

abbrev pub dispatch_of : Tables → ℕ → MsgRow → Option Dispatch
dispatch_of t slot m = option_and_then (dispatch_of_slot t m) (slot_of m slot)

-- what is sent of that slot; in valid worlds all that it needs is there
abbrev pub dispatch : Tables → SlotRef → Option Dispatch
dispatch t at = option_and_then (dispatch_of t at.slot) (find_message t at.id)

-- ---- why a parcel is not taken in

abbrev pub is_same_kind : Kind → Kind → Bool
is_same_kind field_kinds.Num field_kinds.Num = true
is_same_kind field_kinds.Num field_kinds.Text = false
is_same_kind field_kinds.Text field_kinds.Num = false
is_same_kind field_kinds.Text field_kinds.Text = true

abbrev pub is_same_field : Field → Field → Bool
is_same_field a b = bytes_eq a.name b.name && is_same_kind a.kind b.kind

abbrev pub is_same_type : List Field → List Field → Bool
is_same_type a b = (length a == length b) && list_all (λ pair. is_same_field pair.0 pair.1) (zip a b)

-- in valid tables the table of a queue is there
abbrev pub cause_at_table : Parcel → ℕ → Option TableRow → Option Cause
cause_at_table p next None = Some causes.NoQueue
cause_at_table p next (Some table) = if not (is_same_type table.fields p.fields) then Some causes.Payload
    else (if nat_le (2 ^ 61) next then Some causes.Limit else None)

abbrev pub cause_at_queue : Tables → Parcel → ℕ → Option QueueRow → Option Cause
cause_at_queue there p next None = Some causes.NoQueue
cause_at_queue there p next (Some queue) = if is_exception queue.kind then Some causes.WrongKind
    else (if not queue.enqueue then Some causes.EnqueueOff
    else cause_at_table p next (find_table there queue.table))

-- the first cause for which the destination does not take it in, where next is the id that the copy would get
unfoldable pub cause_of : Tables → Parcel → ℕ → Option Cause
cause_of there p next = cause_at_queue there p next (find_queue there p.to)

-- ---- the copy

abbrev pub copy_slot : TableRow → Parcel → ℕ → SlotRow
copy_slot table p moment = record { name = if table.multi then p.name else None; address = None; state = states.Ready; retries = 0; at = moment; expires = p.expires }

-- the message that is put in at the destination: all of it is new there, but the facts and when it expires
abbrev pub copy_of : TableRow → Parcel → ℕ → ℕ → ℕ → MsgRow
copy_of table p id group moment = record {
  id = id;
  queue = p.to;
  place = place_of (if table.grouped then pos group else pos 0) table.columns p.facts.priority moment moment id;
  facts = p.facts;
  exception = None;
  enq = moment;
  group = group;
  moved = false;
  slots = copy_slot table p moment ∷ [];
}

abbrev pub taken_in_by : Tables → SlotRef → Parcel → ℕ → ℕ → Option TableRow → List Change
taken_in_by there at p next moment None = []
taken_in_by there at p next moment (Some table) = changes.Enqueued (copy_of table p next there.transaction moment) ∷ changes.Seen (record { id = at.id; slot = at.slot; copy = next }) ∷ []

-- the copy goes in, with its id, and the pair of the original is seen
unfoldable pub taken_in : Tables → SlotRef → Parcel → ℕ → ℕ → List Change
taken_in there at p next moment = taken_in_by there at p next moment (table_of there p.to)

-- ---- arrivals

-- how an arrival ends, and what it commits at the origin and at the destination
pub record Arriving : Type 0 where
  pub outcome : Arrival
  pub origin : List Change
  pub there : List Change

-- the sixteenth failure in a row
abbrev pub is_last_failure : ScheduleRow → Bool
is_last_failure schedule = schedule.failures + 1 == 16

-- after a failure it sends nothing for a while, twice as long each time; after the last one it is disabled
abbrev pub delayed : ScheduleRow → ℕ → ScheduleRow
delayed schedule moment = record schedule {
  failures = schedule.failures + 1;
  next = moment + 2 ^ min (schedule.failures + 1) 10;
  enabled = schedule.enabled && not (is_last_failure schedule);
}

abbrev pub arriving_by : Tables → SlotRef → Dispatch → ℕ → ℕ → Option Cause → Arriving
arriving_by there at d next moment (Some cause) = record { outcome = Failed cause (is_last_failure d.schedule); origin = changes.PutSchedule (delayed d.schedule moment) ∷ []; there = [] }
arriving_by there at d next moment None = record { outcome = Copied next; origin = []; there = taken_in there at d.parcel next moment }

abbrev pub is_pair : ℕ → ℕ → SeenRow → Bool
is_pair id slot row = (row.id == id) && (row.slot == slot)

-- the pair of the slot stands in the seen list
abbrev pub has_seen : Tables → SlotRef → Bool
has_seen there at = list_any (is_pair at.id at.slot) there.seen

-- what the arrival of a slot does at its destination, where next is the id that a copy would get
unfoldable pub arriving : Tables → SlotRef → Dispatch → ℕ → ℕ → Arriving
arriving there at d next moment = if has_seen there at then record { outcome = Seen; origin = []; there = [] }
    else arriving_by there at d next moment (cause_of there d.parcel next)

-- ---- confirmation

-- a schedule that has sent something has not failed
abbrev pub recovering : ScheduleRow → List Change
recovering schedule = if schedule.failures == 0 then [] else changes.PutSchedule (record schedule { failures = 0 }) ∷ []

-- what is committed at the origin when the slot has come to its destination
unfoldable pub confirming : Tables → SlotRef → ScheduleRow → ℕ → List Change
confirming t at schedule moment = settled t (changes.Done at.id at.slot moment ∷ recovering schedule)
