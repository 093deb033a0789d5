-- Messages, and the index that finds them by their numbers.
use Rattle.std.specs.Prelude.{◌≡◌, ◌==◌, ℕ, List, Bool, Option, map, option_map, slice_get}
use Rattle.std.specs.Str.{bytes_eq}
use Rattle.queue_rows.specs.Rows.{changed_first, with_slot}
use Rattle.queue_rows.specs.declared.rows.MsgRow.{MsgRow}
use Rattle.queue_rows.specs.declared.rows.SlotRow.{SlotRow}
use Rattle.choice_laws.specs.ShownLaws.{KeepsRecipient}
use Rattle.open_rows.specs.Rows.{Rows}

-- the numbers of messages, in order
abbrev pub ids_of : List MsgRow → List ℕ
ids_of messages = map (λ m. m.id) messages

-- whether the message at an index stands in that queue
abbrev pub stands_in : List ℕ → List MsgRow → ℕ → Option Bool
stands_in queue messages at = option_map (λ m. bytes_eq m.queue queue) (slice_get messages at)

-- the first message of that number is changed
abbrev pub with_changed : ℕ → (MsgRow → MsgRow) → Rows MsgRow → Rows MsgRow
with_changed id change rows = record rows { items = changed_first (λ m. m.id == id) change rows.items }

-- a change of a message leaves its number
abbrev pub KeepsId : (MsgRow → MsgRow) → Type 0
KeepsId change = (m : MsgRow) → (change m).id ≡ m.id

-- what is changed of a message is that slot, which is left to its recipient
pub record IsOfSlot (slot : ℕ) (edit : MsgRow → MsgRow) : Type 0 where
  pub change : SlotRow → SlotRow
  pub keeps : KeepsRecipient change
  pub is : (m : MsgRow) → edit m ≡ with_slot slot change m
