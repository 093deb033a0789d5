-- What is sound stays so after a commit that was read and fits.
use Rattle.std.proofs.Common.{◌≡◌, ℕ, Bool, true, false, not, List, [], ◌∷◌, ◌++◌, Option, Some, None, refl}
use Rattle.std.specs.Prelude.{◌==◌, ◌&&◌, is_some, if◌then◌else◌}
use Rattle.std.specs.List.{AllByRecursion}
use Rattle.std.specs.Option.{IfSome}
use Rattle.std.specs.Str.{bytes_eq}
use Rattle.payload_records.specs.Order.{is_in_order}
use Rattle.payload_records.specs.declared.record.Datum.{Datum}
use Rattle.payload_records.specs.declared.record.Datum.TheVariants as data_of
use Rattle.rule_conditions.specs.declared.condition.Cond.{Cond}
use Rattle.queue_rows.specs.Fits.{all_name_what_is_there, fits}
use Rattle.queue_rows.specs.Rows.{find_message, find_queue, find_table, is_same_table, is_same_sub, with_slot}
use Rattle.queue_rows.specs.Tables.{empty_tables, after, after_all, after_change, changed_message, drop_queue, in_state, move_some, moved_to, retried, without_table}
use Rattle.queue_rows.specs.Valid.{is_valid}
use Rattle.queue_rows.specs.declared.rows.MsgRow.{MsgRow}
use Rattle.queue_rows.specs.declared.rows.SlotRow.{SlotRow}
use Rattle.queue_rows.specs.declared.rows.SlotState.TheVariants as states
use Rattle.queue_rows.specs.declared.rows.SubRow.{SubRow}
use Rattle.queue_rows.specs.declared.rows.TableRow.{TableRow}
use Rattle.queue_rows.specs.declared.tables.Tables.{Tables}
use Rattle.queue_rows.specs.declared.change.Change.{Change}
use Rattle.queue_rows.specs.declared.change.Change.TheVariants as changes
use Rattle.queue_rows.specs.declared.change.Commit.{Commit}
use Rattle.redo_records.specs.Spelled.{HasSpelling, IsDatum, IsMsgRow, IsRule, IsSpelled, IsSubRow, IsTableRow}
use Rattle.redo_records.specs.Spellable.{HasFullCells, HasReadRule, IsFull}
use Rattle.database_recovery.specs.Sound.{IsSound}
use Rattle.database_recovery.proofs.Each.{all_changed, all_kept, all_last, all_pass, all_put, all_without_first, both, each_passes}
use Rattle.database_recovery.proofs.Spelled.{rows_after}

abbrev IsOrdered : TableRow → Type 0
IsOrdered row = is_in_order row.fields ≡ true

-- what is kept from change to change
record IsKept (t : Tables) : Type 0 where
  fields : AllByRecursion IsOrdered t.tables
  rules : AllByRecursion HasReadRule t.subs
  cells : AllByRecursion HasFullCells t.messages

-- ---- what has a spelling

full_datum : (d : Datum) → IsDatum d → IsFull d
full_datum data_of.Null h = tt
full_datum (data_of.Num n) h = tt
full_datum (data_of.Text text) h = h.1

full_data : (cells : List Datum) → AllByRecursion IsDatum cells → AllByRecursion IsFull cells
full_data [] h = tt
full_data (d ∷ cells) h = (full_datum d h.0, full_data cells h.1)

read_rule : (rule : Option Cond) (s : SubRow) → s.rule ≡ rule → IfSome rule IsRule → HasReadRule s
read_rule None s e h = rw e tt
read_rule (Some c) s e h = rw e h.1

-- ---- parts of changes

with_table : (t : Tables) (row : TableRow) → IsTableRow row → IsKept t → AllByRecursion IsOrdered (after_change t (changes.PutTable row)).tables
with_table t row h k = all_put IsOrdered is_same_table row t.tables k.fields h.fields.1

with_sub : (t : Tables) (row : SubRow) → IsSubRow row → IsKept t → AllByRecursion HasReadRule (after_change t (changes.PutSub row)).subs
with_sub t row h k = all_put HasReadRule is_same_sub row t.subs k.rules (read_rule row.rule row refl h.rule)

with_message : (version : ℕ) (t : Tables) (row : MsgRow) → IsMsgRow version row → IsKept t → AllByRecursion HasFullCells (t.messages ++ row ∷ [])
with_message version t row h k = all_last HasFullCells t.messages row k.cells (full_data row.facts.cells.cells h.cells.1)

with_change : (t : Tables) (id : ℕ) (f : MsgRow → MsgRow) → ((m : MsgRow) → HasFullCells m → HasFullCells (f m)) → IsKept t → AllByRecursion HasFullCells (changed_message t id f).messages
with_change t id f keeps k = all_changed HasFullCells (λ m. m.id == id) f keeps t.messages k.cells

with_slot_change : (t : Tables) (id slot : ℕ) (f : SlotRow → SlotRow) → IsKept t → IsKept (changed_message t id (with_slot slot f))
with_slot_change t id slot f k =
    record { fields = k.fields; rules = k.rules; cells = with_change t id (with_slot slot f) (λ m h. h) k }

without_a_queue : (t : Tables) (name : List ℕ) (there : Bool) → IsKept t → IsKept (if there then drop_queue t name else t)
without_a_queue t name true k = record {
  fields = k.fields;
  rules = all_kept HasReadRule (λ s. not (bytes_eq s.queue name)) t.subs k.rules;
  cells = all_kept HasFullCells (λ m. not (bytes_eq m.queue name)) t.messages k.cells;
}
without_a_queue t name false k = k

without_a_table : (t : Tables) (name : List ℕ) (there : Bool) → is_some (find_table t name) ≡ there → IsKept t → IsKept (without_table t name)
without_a_table t name true e k = rw e (record {
  fields = all_without_first IsOrdered (λ r. bytes_eq r.name name) t.tables k.fields;
  rules = k.rules;
  cells = k.cells;
})
without_a_table t name false e k = rw e k

moves : (t : Tables) (m : MsgRow) (queue : List ℕ) (at : ℕ) (there : Bool) → is_some (find_queue t queue) ≡ there → IsKept t → IsKept (move_some t (Some m) queue at)
moves t m queue at true e k = rw e (record {
  fields = k.fields;
  rules = k.rules;
  cells = all_changed HasFullCells (λ r. r.id == m.id) (moved_to queue at) (λ r h. h) t.messages k.cells;
})
moves t m queue at false e k = rw e k

with_move : (t : Tables) (found : Option MsgRow) (queue : List ℕ) (at : ℕ) → IsKept t → IsKept (move_some t found queue at)
with_move t None queue at k = k
with_move t (Some m) queue at k = moves t m queue at (is_some (find_queue t queue)) refl k

-- ---- changes

keeps : (version : ℕ) (t : Tables) (c : Change) → IsSpelled version c → IsKept t → IsKept (after_change t c)
keeps version t (changes.PutTable row) h k = record { fields = with_table t row h k; rules = k.rules; cells = k.cells }
keeps version t (changes.DropTable name) h k = without_a_table t name (is_some (find_table t name)) refl k
keeps version t (changes.PutQueue row) h k = record { fields = k.fields; rules = k.rules; cells = k.cells }
keeps version t (changes.DropQueue name) h k = without_a_queue t name (is_some (find_queue t name)) k
keeps version t (changes.PutSub row) h k = record { fields = k.fields; rules = with_sub t row h k; cells = k.cells }
keeps version t (changes.DropSub queue name) h k = record {
  fields = k.fields;
  rules = all_without_first HasReadRule (λ s. bytes_eq s.queue queue && bytes_eq s.name name) t.subs k.rules;
  cells = k.cells;
}
keeps version t (changes.PutSchedule row) h k = record { fields = k.fields; rules = k.rules; cells = k.cells }
keeps version t (changes.DropSchedule queue to) h k = record { fields = k.fields; rules = k.rules; cells = k.cells }
keeps version t (changes.Enqueued row) h k = record { fields = k.fields; rules = k.rules; cells = with_message version t row h k }
keeps version t (changes.Retried id slot retries until at) h k = with_slot_change t id slot (retried retries until at) k
keeps version t (changes.Ready id slot at) h k = with_slot_change t id slot (in_state states.Ready at) k
keeps version t (changes.Done id slot at) h k = with_slot_change t id slot (in_state states.Processed at) k
keeps version t (changes.Expired id slot at) h k = with_slot_change t id slot (in_state states.Expired at) k
keeps version t (changes.Dropped id slot at) h k = with_slot_change t id slot (in_state states.Dropped at) k
keeps version t (changes.Moved id queue at) h k = with_move t (find_message t id) queue at k
keeps version t (changes.Purged id) h k = record {
  fields = k.fields;
  rules = k.rules;
  cells = all_without_first HasFullCells (λ m. m.id == id) t.messages k.cells;
}
keeps version t (changes.Seen row) h k = record { fields = k.fields; rules = k.rules; cells = k.cells }
keeps version t (changes.Counters next transaction latest) h k = record { fields = k.fields; rules = k.rules; cells = k.cells }

keeps_all : (version : ℕ) (t : Tables) (cs : List Change) → AllByRecursion (IsSpelled version) cs → IsKept t → IsKept (after_all t cs)
keeps_all version t [] h k = k
keeps_all version t (c ∷ cs) h k = keeps_all version (after_change t c) cs h.1 (keeps version t c h.0 k)

-- ---- commits

valid_after : (t : Tables) (c : Commit) → fits t c ≡ true → is_valid (after t c) ≡ true
unfolding fits
valid_after t c h = (both (all_name_what_is_there t c.changes) (is_valid (after t c)) h).1

kept_after : (version : ℕ) (t : Tables) (c : Commit) → AllByRecursion (IsSpelled version) c.changes → IsKept t → IsKept (after t c)
unfolding after
kept_after version t c h k = let u = keeps_all version t c.changes h k in record { fields = u.fields; rules = u.rules; cells = u.cells }

pub stays_sound : (version : ℕ) (t : Tables) (c : Commit) → HasSpelling version c → fits t c ≡ true → IsSound t → IsSound (after t c)
stays_sound version t c spelled fitting s =
    let k : IsKept t = record {
      fields = each_passes (λ row. is_in_order row.fields) t.tables s.fields;
      rules = s.rules;
      cells = s.cells;
    } in
    let u = kept_after version t c spelled.changes k in
    record {
      valid = valid_after t c fitting;
      fields = all_pass (λ row. is_in_order row.fields) (after t c).tables u.fields;
      rules = u.rules;
      cells = u.cells;
      rows = rows_after version t c spelled (valid_after t c fitting) s.rows;
    }

pub sound_at_first : (t : Tables) → t ≡ empty_tables → IsSound t
unfolding is_valid
sound_at_first t e = rw e (record { valid = refl; fields = refl; rules = tt; cells = tt; rows = record { tables = tt; queues = tt; subs = tt; schedules = tt; messages = tt; seen = tt } })
