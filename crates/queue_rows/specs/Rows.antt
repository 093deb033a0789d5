-- Looking rows up, and putting them in their place.
use Rattle.std.specs.Prelude.{ℕ, ◌-◌, ◌==◌, ◌&&◌, ◌++◌, List, [], ◌∷◌, Bool, Option, Some, None, option_and_then, find, position, remove, slice_get, slice_set, length, take, nat_le, codes, if◌then◌else◌}
use Rattle.std.specs.Str.{bytes_eq}
use Rattle.queue_rows.specs.declared.tables.Tables.{Tables}
use Rattle.queue_rows.specs.declared.rows.TableRow.{TableRow}
use Rattle.queue_rows.specs.declared.rows.QueueRow.{QueueRow}
use Rattle.queue_rows.specs.declared.rows.SubRow.{SubRow}
use Rattle.queue_rows.specs.declared.rows.ScheduleRow.{ScheduleRow}
use Rattle.queue_rows.specs.declared.rows.MsgRow.{MsgRow}
use Rattle.queue_rows.specs.declared.rows.SlotRow.{SlotRow}

abbrev pub find_table : Tables → List ℕ → Option TableRow
find_table t name = find (λ r. bytes_eq r.name name) t.tables

abbrev pub find_queue : Tables → List ℕ → Option QueueRow
find_queue t name = find (λ r. bytes_eq r.name name) t.queues

-- the table of the queue of that name
abbrev pub table_of : Tables → List ℕ → Option TableRow
table_of t queue = option_and_then (λ q. find_table t q.table) (find_queue t queue)

abbrev pub is_sub : List ℕ → List ℕ → SubRow → Bool
is_sub queue name s = bytes_eq s.queue queue && bytes_eq s.name name

abbrev pub find_sub : Tables → List ℕ → List ℕ → Option SubRow
find_sub t queue name = find (is_sub queue name) t.subs

abbrev pub is_schedule : List ℕ → List ℕ → ScheduleRow → Bool
is_schedule queue to s = bytes_eq s.queue queue && bytes_eq s.to to

abbrev pub find_schedule : Tables → List ℕ → List ℕ → Option ScheduleRow
find_schedule t queue to = find (is_schedule queue to) t.schedules

abbrev pub find_message : Tables → ℕ → Option MsgRow
find_message t id = find (λ m. m.id == id) t.messages

-- the name of a table's default exception queue
abbrev pub exception_name : List ℕ → List ℕ
exception_name table = table ++ codes "_e"

-- ---- one row among its like

abbrev pub put_at : {R : Type 0} → R → List R → Option ℕ → List R
put_at row rows None = rows ++ row ∷ []
put_at row rows (Some i) = slice_set rows i row

-- the first row that is the same one is replaced, or the row goes last
abbrev pub put_by : {R : Type 0} → (R → R → Bool) → R → List R → List R
put_by is_same row rows = put_at row rows (position (λ r. is_same r row) rows)

abbrev pub set_some : {R : Type 0} → List R → ℕ → Option R → List R
set_some rows i None = rows
set_some rows i (Some row) = slice_set rows i row

abbrev pub changed_some : {R : Type 0} → (R → R) → Option R → Option R
changed_some f None = None
changed_some f (Some row) = Some (f row)

-- the row at an index is changed
abbrev pub changed_nth : {R : Type 0} → (R → R) → ℕ → List R → List R
changed_nth f i rows = set_some rows i (changed_some f (slice_get rows i))

abbrev pub changed_at : {R : Type 0} → (R → R) → Option ℕ → List R → List R
changed_at f None rows = rows
changed_at f (Some i) rows = changed_nth f i rows

-- the first row of a kind is changed, if there is one
abbrev pub changed_first : {R : Type 0} → (R → Bool) → (R → R) → List R → List R
changed_first is_it f rows = changed_at f (position is_it rows) rows

abbrev pub removed_at : {R : Type 0} → List R → Option ℕ → List R
removed_at rows None = rows
removed_at rows (Some i) = remove rows i

-- the first row of a kind goes, if there is one
abbrev pub removed_first : {R : Type 0} → (R → Bool) → List R → List R
removed_first is_it rows = removed_at rows (position is_it rows)

-- ---- which rows are the same

abbrev pub is_same_table : TableRow → TableRow → Bool
is_same_table a b = bytes_eq a.name b.name

abbrev pub is_same_queue : QueueRow → QueueRow → Bool
is_same_queue a b = bytes_eq a.name b.name

abbrev pub is_same_sub : SubRow → SubRow → Bool
is_same_sub a b = bytes_eq a.queue b.queue && bytes_eq a.name b.name

abbrev pub is_same_schedule : ScheduleRow → ScheduleRow → Bool
is_same_schedule a b = bytes_eq a.queue b.queue && bytes_eq a.to b.to

-- ---- slots

-- how many slots it has for recipients: all but slot 0
abbrev pub recipient_count : MsgRow → ℕ
recipient_count m = if m.moved then length m.slots - 1 else length m.slots

-- the slots of its recipients
abbrev pub recipient_slots : MsgRow → List SlotRow
recipient_slots m = take (recipient_count m) m.slots

-- it has a slot of that number: slot 0 where it was moved, and else one for a recipient
abbrev pub has_slot : MsgRow → ℕ → Bool
has_slot m slot = if slot == 0 then m.moved else nat_le slot (recipient_count m)

-- where a slot stands that it has: those of recipients are numbered from 1, and slot 0 is the last
abbrev pub slot_index : MsgRow → ℕ → ℕ
slot_index m slot = if slot == 0 then length m.slots - 1 else slot - 1

-- a slot that it does not have is found by nobody
abbrev pub slot_of : MsgRow → ℕ → Option SlotRow
slot_of m slot = if has_slot m slot then slice_get m.slots (slot_index m slot) else None

-- and changed by nothing
abbrev pub with_slot : ℕ → (SlotRow → SlotRow) → MsgRow → MsgRow
with_slot slot f m = record m { slots = if has_slot m slot then changed_nth f (slot_index m slot) m.slots else m.slots }
