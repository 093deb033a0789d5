-- The commit that bytes spell, in the versions 1 and 2. What is read is a value, and the bytes behind it.
use Rattle.std.specs.Prelude.{ℕ, zero, suc, ◌/◌, ◌%◌, ◌==◌, ℤ, pos, negsuc, List, [], ◌∷◌, length, Bool, true, false, Option, Some, None, option_map, option_and_then, not, Result, Ok, Err, if◌then◌else◌}
use Rattle.std.specs.Str.{bytes_eq, is_utf8}
use Rattle.payload_records.specs.Name.{is_name}
use Rattle.payload_records.specs.Order.{is_in_order}
use Rattle.payload_records.specs.declared.kind.Field.{Field}
use Rattle.payload_records.specs.declared.kind.Kind.{Kind}
use Rattle.payload_records.specs.declared.kind.Kind.TheVariants as kinds
use Rattle.payload_records.specs.declared.props.Prop.{Prop}
use Rattle.payload_records.specs.declared.record.Datum.{Datum}
use Rattle.payload_records.specs.declared.record.Datum.TheVariants as data_of
use Rattle.place_keys.specs.declared.sort_list.Column.{Column}
use Rattle.place_keys.specs.declared.sort_list.Column.TheVariants as columns
use Rattle.redo_journal.specs.Num.{◌>>=◌, num_at, run_at, listed_at}
use Rattle.redo_records.specs.declared.messages.MsgFront.{MsgFront}
use Rattle.rule_conditions.specs.Print.{print}
use Rattle.rule_conditions.specs.Reading.{condition_of}
use Rattle.rule_conditions.specs.declared.condition.Cond.{Cond}
use Rattle.queue_rows.specs.declared.rows.TableRow.{TableRow}
use Rattle.queue_rows.specs.declared.rows.QueueKind.{QueueKind}
use Rattle.queue_rows.specs.declared.rows.QueueKind.TheVariants as queue_kinds
use Rattle.queue_rows.specs.declared.rows.QueueRow.{QueueRow}
use Rattle.queue_rows.specs.declared.rows.SubRow.{SubRow}
use Rattle.queue_rows.specs.declared.rows.ScheduleRow.{ScheduleRow}
use Rattle.queue_rows.specs.declared.rows.MsgRow.{MsgRow}
use Rattle.queue_rows.specs.declared.rows.SlotRow.{SlotRow}
use Rattle.queue_rows.specs.declared.rows.SlotState.{SlotState}
use Rattle.queue_rows.specs.declared.rows.SlotState.TheVariants as states
use Rattle.queue_rows.specs.declared.rows.SeenRow.{SeenRow}
use Rattle.queue_rows.specs.declared.change.Change.{Change}
use Rattle.queue_rows.specs.declared.change.Change.TheVariants as changes
use Rattle.queue_rows.specs.declared.change.Commit.{Commit}

-- a value, and the bytes behind it
abbrev pub Read : Type 0 → Type 0
Read A = Option (A × List ℕ)

-- what was read counts where the test holds
abbrev pub only_if : {A : Type 0} → (A → Bool) → A × List ℕ → Read A
only_if test read = if test read.0 then Some read else None

-- ---- parts

abbrev pub unzigzag : ℕ → ℤ
unzigzag n = if n % 2 == 0 then pos (n / 2) else negsuc (n / 2)

abbrev pub int_at : List ℕ → Read ℤ
int_at bytes = option_map (λ n. (unzigzag n.0, n.1)) (num_at bytes)

-- what the first byte stands for
abbrev pub choice_at : {A : Type 0} → (ℕ → Option A) → List ℕ → Read A
choice_at meant [] = None
choice_at meant (b ∷ rest) = option_map (λ a. (a, rest)) (meant b)

abbrev pub flag_of : ℕ → Option Bool
flag_of byte = if byte == 0 then Some false else (if byte == 1 then Some true else None)

abbrev pub flag_at : List ℕ → Read Bool
flag_at bytes = choice_at flag_of bytes

-- what stands behind a flag
abbrev pub behind_flag : {A : Type 0} → (List ℕ → Read A) → Bool → List ℕ → Read (Option A)
behind_flag read false rest = Some (None, rest)
behind_flag read true rest = option_map (λ x. (Some x.0, x.1)) (read rest)

abbrev pub optional_at : {A : Type 0} → (List ℕ → Read A) → List ℕ → Read (Option A)
optional_at read bytes = do
  there ← flag_at bytes
  behind_flag read there.0 there.1

abbrev pub text_at : List ℕ → Read (List ℕ)
text_at bytes = option_and_then (only_if is_utf8) (run_at bytes)

abbrev pub name_at : List ℕ → Read (List ℕ)
name_at bytes = option_and_then (only_if is_name) (run_at bytes)

abbrev pub is_not_empty : List ℕ → Bool
is_not_empty [] = false
is_not_empty (b ∷ bytes) = true

-- no datum is an empty text
abbrev pub full_text_at : List ℕ → Read (List ℕ)
full_text_at bytes = option_and_then (only_if is_not_empty) (text_at bytes)

abbrev pub datum_by : ℕ → List ℕ → Read Datum
datum_by tag rest = if tag == 0 then Some (data_of.Null, rest)
    else (if tag == 1 then option_map (λ n. (data_of.Num n.0, n.1)) (int_at rest)
    else (if tag == 2 then option_map (λ text. (data_of.Text text.0, text.1)) (full_text_at rest) else None))

abbrev pub datum_at : List ℕ → Read Datum
datum_at [] = None
datum_at (tag ∷ rest) = datum_by tag rest

abbrev pub if_printed : List ℕ → Result Cond ℕ → Option Cond
if_printed text (Ok c) = if bytes_eq (print c) text then Some c else None
if_printed text (Err at) = None

-- the condition that prints as this text
abbrev pub rule_of : List ℕ → Option Cond
rule_of text = if_printed text (condition_of text)

abbrev pub rule_at : List ℕ → Read Cond
rule_at bytes = do
  text ← text_at bytes
  option_map (λ c. (c, text.1)) (rule_of text.0)

abbrev pub kind_of : ℕ → Option Kind
kind_of byte = if byte == 0 then Some kinds.Num else (if byte == 1 then Some kinds.Text else None)

abbrev pub column_of : ℕ → Option Column
column_of byte = if byte == 0 then Some columns.Priority
    else (if byte == 1 then Some columns.EnqTime
    else (if byte == 2 then Some columns.CommitTime else None))

abbrev pub queue_kind_of : ℕ → Option QueueKind
queue_kind_of byte = if byte == 0 then Some queue_kinds.Normal else (if byte == 1 then Some queue_kinds.Exception else None)

abbrev pub state_of : ℕ → Option SlotState
state_of byte = if byte == 0 then Some states.Ready
    else (if byte == 1 then Some states.Waiting
    else (if byte == 2 then Some states.Processed
    else (if byte == 3 then Some states.Expired
    else (if byte == 4 then Some states.Dropped else None))))

abbrev pub field_at : List ℕ → Read Field
field_at bytes = do
  name ← name_at bytes
  kind ← choice_at kind_of name.1
  Some (record { name = name.0; kind = kind.0 }, kind.1)

-- in byte order of distinct names
abbrev pub fields_at : List ℕ → Read (List Field)
fields_at bytes = option_and_then (only_if is_in_order) (listed_at field_at bytes)

abbrev pub is_same_column : Column → Column → Bool
is_same_column columns.Priority columns.Priority = true
is_same_column columns.EnqTime columns.EnqTime = true
is_same_column columns.CommitTime columns.CommitTime = true
is_same_column left right = false

-- one column, or two different ones
abbrev pub is_sort_list : List Column → Bool
is_sort_list [] = false
is_sort_list (first ∷ []) = true
is_sort_list (first ∷ second ∷ []) = not (is_same_column first second)
is_sort_list (first ∷ second ∷ third ∷ more) = false

-- a sort list, and nothing else
abbrev pub columns_at : List ℕ → Read (List Column)
columns_at bytes = option_and_then (only_if is_sort_list) (listed_at (choice_at column_of) bytes)

abbrev pub prop_at : List ℕ → Read Prop
prop_at bytes = do
  name ← name_at bytes
  value ← datum_at name.1
  Some (record { name = name.0; value = value.0 }, value.1)

-- ---- rows

unfoldable pub table_row_at : List ℕ → Read TableRow
table_row_at bytes = do
  name ← name_at bytes
  fields ← fields_at name.1
  sort ← columns_at fields.1
  multi ← flag_at sort.1
  grouped ← flag_at multi.1
  Some (record { name = name.0; fields = fields.0; columns = sort.0; multi = multi.0; grouped = grouped.0 }, grouped.1)

unfoldable pub queue_row_at : List ℕ → Read QueueRow
queue_row_at bytes = do
  name ← name_at bytes
  table ← name_at name.1
  kind ← choice_at queue_kind_of table.1
  enqueue ← flag_at kind.1
  dequeue ← flag_at enqueue.1
  max_retries ← num_at dequeue.1
  retry_delay ← num_at max_retries.1
  retention ← num_at retry_delay.1
  lowest ← int_at retention.1
  Some (
    record {
      name = name.0;
      table = table.0;
      kind = kind.0;
      enqueue = enqueue.0;
      dequeue = dequeue.0;
      max_retries = max_retries.0;
      retry_delay = retry_delay.0;
      retention = retention.0;
      lowest = lowest.0;
    },
    lowest.1,
  )

unfoldable pub sub_row_at : List ℕ → Read SubRow
sub_row_at bytes = do
  queue ← name_at bytes
  name ← name_at queue.1
  address ← optional_at name_at name.1
  rule ← optional_at rule_at address.1
  Some (record { queue = queue.0; name = name.0; address = address.0; rule = rule.0 }, rule.1)

unfoldable pub schedule_row_at : List ℕ → Read ScheduleRow
schedule_row_at bytes = do
  queue ← name_at bytes
  to ← name_at queue.1
  enabled ← flag_at to.1
  start ← num_at enabled.1
  duration ← optional_at num_at start.1
  period ← optional_at num_at duration.1
  latency ← num_at period.1
  failures ← num_at latency.1
  next ← num_at failures.1
  Some (
    record {
      queue = queue.0;
      to = to.0;
      enabled = enabled.0;
      start = start.0;
      duration = duration.0;
      period = period.0;
      latency = latency.0;
      failures = failures.0;
      next = next.0;
    },
    next.1,
  )

unfoldable pub slot_row_at : List ℕ → Read SlotRow
slot_row_at bytes = do
  name ← optional_at name_at bytes
  address ← optional_at name_at name.1
  state ← choice_at state_of address.1
  retries ← num_at state.1
  at ← num_at retries.1
  expires ← optional_at num_at at.1
  Some (record { name = name.0; address = address.0; state = state.0; retries = retries.0; at = at.0; expires = expires.0 }, expires.1)

-- version 1 has no properties
abbrev pub props_at : ℕ → List ℕ → Read (List Prop)
props_at version bytes = if version == 1 then Some ([], bytes) else listed_at prop_at bytes

-- a message behind what stands in front of its cells
abbrev pub msg_behind_front : ℕ → MsgFront → List ℕ → Read MsgRow
msg_behind_front version front bytes = do
  cells ← listed_at datum_at bytes
  enq ← num_at cells.1
  group ← num_at enq.1
  moved ← flag_at group.1
  slots ← listed_at slot_row_at moved.1
  props ← props_at version slots.1
  Some (
    record {
      id = front.id;
      queue = front.queue;
      place = front.place;
      facts = record { priority = front.priority; corr = front.corr; cells = record { cells = cells.0 }; props = props.0 };
      exception = front.exception;
      enq = enq.0;
      group = group.0;
      moved = moved.0;
      slots = slots.0;
    },
    props.1,
  )

unfoldable pub msg_row_at : ℕ → List ℕ → Read MsgRow
msg_row_at version bytes = do
  id ← num_at bytes
  queue ← name_at id.1
  place ← listed_at int_at queue.1
  priority ← int_at place.1
  corr ← optional_at text_at priority.1
  exception ← optional_at name_at corr.1
  msg_behind_front version (record { id = id.0; queue = queue.0; place = place.0; priority = priority.0; corr = corr.0; exception = exception.0 }) exception.1

unfoldable pub seen_row_at : List ℕ → Read SeenRow
seen_row_at bytes = do
  id ← num_at bytes
  slot ← num_at id.1
  copy ← num_at slot.1
  Some (record { id = id.0; slot = slot.0; copy = copy.0 }, copy.1)

-- ---- changes

-- a row, as what puts it in
abbrev pub put : {R : Type 0} → (R → Change) → Read R → Read Change
put made row = option_map (λ r. (made r.0, r.1)) row

-- a queue, and a name in it
unfoldable pub named_at : List ℕ → Read (List ℕ × List ℕ)
named_at bytes = do
  queue ← name_at bytes
  name ← name_at queue.1
  Some ((queue.0, name.0), name.1)

-- what names a slot and a moment
unfoldable pub slot_at : List ℕ → Read (ℕ × ℕ × ℕ)
slot_at bytes = do
  id ← num_at bytes
  slot ← num_at id.1
  at ← num_at slot.1
  Some ((id.0, slot.0, at.0), at.1)

abbrev pub named_change_at : (List ℕ → List ℕ → Change) → List ℕ → Read Change
named_change_at made rest = put (λ n. made n.0 n.1) (named_at rest)

abbrev pub slot_change_at : (ℕ → ℕ → ℕ → Change) → List ℕ → Read Change
slot_change_at made rest = put (λ s. made s.0 s.1 s.2) (slot_at rest)

unfoldable pub retried_at : List ℕ → Read Change
retried_at bytes = do
  id ← num_at bytes
  slot ← num_at id.1
  retries ← num_at slot.1
  until ← optional_at num_at retries.1
  at ← num_at until.1
  Some (changes.Retried id.0 slot.0 retries.0 until.0 at.0, at.1)

unfoldable pub moved_at : List ℕ → Read Change
moved_at bytes = do
  id ← num_at bytes
  queue ← name_at id.1
  at ← num_at queue.1
  Some (changes.Moved id.0 queue.0 at.0, at.1)

-- the change of a tag, of those that name slots, messages or numbers
abbrev pub slot_change_by : ℕ → List ℕ → Read Change
slot_change_by tag rest = if tag == 10 then retried_at rest
    else (if tag == 11 then slot_change_at changes.Ready rest
    else (if tag == 12 then slot_change_at changes.Done rest
    else (if tag == 13 then slot_change_at changes.Expired rest
    else (if tag == 14 then slot_change_at changes.Dropped rest
    else (if tag == 15 then moved_at rest
    else (if tag == 16 then put changes.Purged (num_at rest)
    else (if tag == 17 then put changes.Seen (seen_row_at rest)
    else (if tag == 18 then slot_change_at changes.Counters rest else None))))))))

-- and of all
abbrev pub change_by : ℕ → ℕ → List ℕ → Read Change
change_by version tag rest = if tag == 1 then put changes.PutTable (table_row_at rest)
    else (if tag == 2 then put changes.DropTable (name_at rest)
    else (if tag == 3 then put changes.PutQueue (queue_row_at rest)
    else (if tag == 4 then put changes.DropQueue (name_at rest)
    else (if tag == 5 then put changes.PutSub (sub_row_at rest)
    else (if tag == 6 then named_change_at changes.DropSub rest
    else (if tag == 7 then put changes.PutSchedule (schedule_row_at rest)
    else (if tag == 8 then named_change_at changes.DropSchedule rest
    else (if tag == 9 then put changes.Enqueued (msg_row_at version rest) else slot_change_by tag rest))))))))

abbrev pub change_at : ℕ → List ℕ → Read Change
change_at version [] = None
change_at version (tag ∷ rest) = change_by version tag rest

-- changes up to the end of the bytes, at most as many as there are bytes
unfoldable pub changes_of : ℕ → ℕ → List ℕ → Option (List Change)
changes_of room version [] = Some []
changes_of zero version (b ∷ rest) = None
changes_of (suc room) version (b ∷ rest) = do
  first ← change_at version (b ∷ rest)
  others ← changes_of room version first.1
  Some (first.0 ∷ others)

-- ---- commits

abbrev pub commit_of : ℕ → List Change → Option Commit
commit_of moment [] = None
commit_of moment (first ∷ others) = Some (record { moment = moment; changes = first ∷ others })

-- the commit that bytes spell in a version: a moment, and at least one change
unfoldable pub decode : ℕ → List ℕ → Option Commit
decode version bytes = do
  moment ← num_at bytes
  cs ← changes_of (length moment.1) version moment.1
  commit_of moment.0 cs
