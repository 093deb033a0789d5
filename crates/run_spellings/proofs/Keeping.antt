-- What is spellable leaves rows so.
use Rattle.std.proofs.Common.{◌≡◌, ℕ, Bool, true, false, not, List, [], ◌∷◌, length, Option, Some, None, refl, ◌==◌, ◌&&◌}
use Rattle.std.specs.Prelude.{is_some, if◌then◌else◌}
use Rattle.std.specs.Str.{bytes_eq}
use Rattle.queue_rows.specs.Rows.{find_message, find_queue, find_table, is_same_sub, with_slot}
use Rattle.queue_rows.specs.Tables.{after, after_all, after_change, changed_message, drop_queue, in_state, move_some, moved_to, retried, without_table}
use Rattle.queue_rows.specs.World.{committed_tables}
use Rattle.queue_rows.specs.declared.rows.MsgRow.{MsgRow}
use Rattle.queue_rows.specs.declared.rows.SlotRow.{SlotRow}
use Rattle.queue_rows.specs.declared.rows.SlotState.TheVariants as states
use Rattle.queue_rows.specs.declared.tables.Tables.{Tables}
use Rattle.queue_rows.specs.declared.change.Change.{Change}
use Rattle.queue_rows.specs.declared.change.Change.TheVariants as changes
use Rattle.redo_records.specs.Spellable.{HasFullData, HasReadRule, IsSpellable}
use Rattle.run_spellings.specs.SpellableRun.{AreSpellable, HasSpellableRows}
use Rattle.run_spellings.proofs.Each.{each_changed, each_kept, each_last, each_put, each_without}

-- ---- parts of changes

with_change : (t : Tables) (id : ℕ) (f : MsgRow → MsgRow) → ((m : MsgRow) → HasFullData m → HasFullData (f m)) → HasSpellableRows t → HasSpellableRows (changed_message t id f)
with_change t id f keeps k = record { rules = k.rules; messages = each_changed HasFullData (λ m. m.id == id) f keeps t.messages k.messages }

with_slot_change : (t : Tables) (id slot : ℕ) (f : SlotRow → SlotRow) → HasSpellableRows t → HasSpellableRows (changed_message t id (with_slot slot f))
with_slot_change t id slot f k = with_change t id (with_slot slot f) (λ m h. record { cells = h.cells; props = h.props }) k

without_a_queue : (t : Tables) (name : List ℕ) (there : Bool) → HasSpellableRows t → HasSpellableRows (if there then drop_queue t name else t)
without_a_queue t name true k = record {
  rules = each_kept HasReadRule (λ s. not (bytes_eq s.queue name)) t.subs k.rules;
  messages = each_kept HasFullData (λ m. not (bytes_eq m.queue name)) t.messages k.messages;
}
without_a_queue t name false k = k

without_a_table : (t : Tables) (name : List ℕ) (there : Bool) → is_some (find_table t name) ≡ there → HasSpellableRows t → HasSpellableRows (without_table t name)
without_a_table t name true e k = rw e (record { rules = k.rules; messages = k.messages })
without_a_table t name false e k = rw e k

moves : (t : Tables) (m : MsgRow) (queue : List ℕ) (at : ℕ) (there : Bool) → is_some (find_queue t queue) ≡ there → HasSpellableRows t → HasSpellableRows (move_some t (Some m) queue at)
moves t m queue at true e k =
    rw e (record { rules = k.rules; messages = each_changed HasFullData (λ r. r.id == m.id) (moved_to queue at) (λ r h. record { cells = h.cells; props = h.props }) t.messages k.messages })
moves t m queue at false e k = rw e k

with_move : (t : Tables) (found : Option MsgRow) (queue : List ℕ) (at : ℕ) → HasSpellableRows t → HasSpellableRows (move_some t found queue at)
with_move t None queue at k = k
with_move t (Some m) queue at k = moves t m queue at (is_some (find_queue t queue)) refl k

-- ---- changes

keeps : (t : Tables) (c : Change) → IsSpellable c → HasSpellableRows t → HasSpellableRows (after_change t c)
keeps t (changes.PutTable row) h k = record { rules = k.rules; messages = k.messages }
keeps t (changes.DropTable name) h k = without_a_table t name (is_some (find_table t name)) refl k
keeps t (changes.PutQueue row) h k = record { rules = k.rules; messages = k.messages }
keeps t (changes.DropQueue name) h k = without_a_queue t name (is_some (find_queue t name)) k
keeps t (changes.PutSub row) h k = record { rules = each_put HasReadRule is_same_sub row t.subs k.rules h; messages = k.messages }
keeps t (changes.DropSub queue name) h k = record { rules = each_without HasReadRule (λ s. bytes_eq s.queue queue && bytes_eq s.name name) t.subs k.rules; messages = k.messages }
keeps t (changes.PutSchedule row) h k = record { rules = k.rules; messages = k.messages }
keeps t (changes.DropSchedule queue to) h k = record { rules = k.rules; messages = k.messages }
keeps t (changes.Enqueued row) h k = record { rules = k.rules; messages = each_last HasFullData t.messages row k.messages h }
keeps t (changes.Retried id slot retries until at) h k = with_slot_change t id slot (retried retries until at) k
keeps t (changes.Ready id slot at) h k = with_slot_change t id slot (in_state states.Ready at) k
keeps t (changes.Done id slot at) h k = with_slot_change t id slot (in_state states.Processed at) k
keeps t (changes.Expired id slot at) h k = with_slot_change t id slot (in_state states.Expired at) k
keeps t (changes.Dropped id slot at) h k = with_slot_change t id slot (in_state states.Dropped at) k
keeps t (changes.Moved id queue at) h k = with_move t (find_message t id) queue at k
keeps t (changes.Purged id) h k = record { rules = k.rules; messages = each_without HasFullData (λ m. m.id == id) t.messages k.messages }
keeps t (changes.Seen row) h k = record { rules = k.rules; messages = k.messages }
keeps t (changes.Counters next transaction latest) h k = record { rules = k.rules; messages = k.messages }

keeps_all : (t : Tables) (cs : List Change) → AreSpellable cs → HasSpellableRows t → HasSpellableRows (after_all t cs)
keeps_all t [] h k = k
keeps_all t (c ∷ cs) h k = keeps_all (after_change t c) cs h.1 (keeps t c h.0 k)

-- ---- commits

after_keeps : (t : Tables) (cs : List Change) (moment : ℕ) → AreSpellable cs → HasSpellableRows t → HasSpellableRows (after t (record { moment = moment; changes = cs }))
unfolding after
after_keeps t cs moment h k = let u = keeps_all t cs h k in record { rules = u.rules; messages = u.messages }

by_length : (t : Tables) (cs : List Change) (moment : ℕ) (b : Bool) → AreSpellable cs → HasSpellableRows t → HasSpellableRows (if b then t else after t (record { moment = moment; changes = cs }))
by_length t cs moment true h k = k
by_length t cs moment false h k = after_keeps t cs moment h k

pub commit_keeps_rows : (t : Tables) (cs : List Change) (moment : ℕ) → AreSpellable cs → HasSpellableRows t → HasSpellableRows (committed_tables t cs moment)
commit_keeps_rows t cs moment h k = by_length t cs moment (length cs == 0) h k
