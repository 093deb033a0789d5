-- The laws of rows: what changes make of the messages of a database.
use Rattle.std.specs.Prelude.{◌≡◌, ℕ, ◌==◌, ◌&&◌, ◌||◌, List, [], ◌∷◌, Bool, true, false, not, is_none, is_some}
use Rattle.std.specs.Option.{option_map_or}
use Rattle.std.specs.Str.{bytes_eq}
use Rattle.queue_rows.specs.Distinct.{are_distinct}
use Rattle.queue_rows.specs.Rows.{find_message, find_queue}
use Rattle.queue_rows.specs.Settling.{message_after}
use Rattle.queue_rows.specs.Tables.{after_change, after_all}
use Rattle.queue_rows.specs.Valid.{is_same_message}
use Rattle.queue_rows.specs.declared.change.Change.{Change}
use Rattle.queue_rows.specs.declared.change.Change.TheVariants as changes
use Rattle.queue_rows.specs.declared.tables.Tables.{Tables}

-- no two messages have one id
abbrev pub HasDistinctMessages : Tables → Type 0
HasDistinctMessages t = are_distinct is_same_message t.messages ≡ true

-- a message that it puts in is not there yet
abbrev pub puts_new : Tables → Change → Bool
puts_new t (changes.Enqueued row) = is_none (find_message t row.id)
puts_new t _ = true

-- ---- of which changes settling tells what they make of a message

-- the message stands in that queue, which is there
abbrev pub stands_in : Tables → List ℕ → ℕ → Bool
stands_in t queue id = is_some (find_queue t queue) && option_map_or (λ m. bytes_eq m.queue queue) (find_message t id) false

-- The change does not put the message of that id in, and does not drop the queue in which it stands; and where it moves the
-- message, the queue to which it goes is there.
abbrev pub leaves_to_settling : ℕ → Tables → Change → Bool
leaves_to_settling id t (changes.Enqueued row) = not (row.id == id)
leaves_to_settling id t (changes.DropQueue name) = not (stands_in t name id)
leaves_to_settling id t (changes.Moved named queue at) = not (named == id) || is_some (find_queue t queue)
leaves_to_settling id t _ = true

-- so does each of the changes, in the tables after those before it
abbrev pub all_leave_to_settling : ℕ → Tables → List Change → Bool
all_leave_to_settling id t [] = true
all_leave_to_settling id t (c ∷ cs) = leaves_to_settling id t c && all_leave_to_settling id (after_change t c) cs

-- ---- the laws

-- ids stay distinct where no change puts in a message that is there
abbrev pub StaysDistinct : Type 0
StaysDistinct = (t : Tables) (c : Change) → HasDistinctMessages t → puts_new t c ≡ true → HasDistinctMessages (after_change t c)

-- the message found after changes is the one that settling takes for it
abbrev pub FindsAfterAll : Type 0
FindsAfterAll = (t : Tables) (cs : List Change) (id : ℕ) → HasDistinctMessages t → all_leave_to_settling id t cs ≡ true → find_message (after_all t cs) id ≡ message_after t cs id
