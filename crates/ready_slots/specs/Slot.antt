-- What becomes of an index of ready slots when a slot of a message changes: only the consumers for whom the slot counts may get or lose
-- a row.
use Rattle.std.specs.Prelude.{◌≡◌, ℕ, Bool, cond, List, Option, Some, None, option_and_then}
use Rattle.queue_rows.specs.Rows.{slot_of, with_slot}
use Rattle.queue_rows.specs.declared.rows.MsgRow.{MsgRow}
use Rattle.queue_rows.specs.declared.rows.SlotRow.{SlotRow}
use Rattle.sort_index.specs.Ready.{is_of, key}
use Rattle.sort_index.specs.declared.group.Group.{Group}
use Rattle.choice_laws.specs.Entries.{Row, shows, with_row, without_row}
use Rattle.choice_laws.specs.ShownLaws.{KeepsRecipient}
use Rattle.ready_slots.specs.Edits.{Changes}
use Rattle.ready_slots.specs.Taking.{row_at, told}

-- the rows with that one or without it, by whether it stands there now; where they are none of their own they stay
abbrev pub set_where : (own stands : Bool) → Row → List Row → List Row
set_where own stands row rows = cond own (with_row stands row (without_row row rows)) rows

-- the consumer has the row of the message exactly where it is shown the message, and every other one has what it had
abbrev pub SetsRow : MsgRow → Option (List ℕ) → ℕ → (before after : List Group) → Type 0
SetsRow m consumer stamp before after = (q : List ℕ) (c : Option (List ℕ))
    → told q c after ≡ set_where (is_of q c (key m.queue consumer)) (shows m consumer) (row_at stamp m) (told q c before)

-- the name of a slot's recipient
abbrev pub slot_name : MsgRow → ℕ → Option (List ℕ)
slot_name m slot = option_and_then (λ s. s.name) (slot_of m slot)

-- the same of the consumer of that name, if there is a name
abbrev pub SetsNamed : Option (List ℕ) → MsgRow → ℕ → (before after : List Group) → Type 0
SetsNamed None m stamp before after = after ≡ before
SetsNamed (Some name) m stamp before after = SetsRow m (Some name) stamp before after

-- a slot of the message under the stamp was changed, and left to its recipient
abbrev pub ChangesSlot : ℕ → ℕ → MsgRow → (before after : List Group) → Type 0
ChangesSlot stamp slot n before after = (m : MsgRow) (change : SlotRow → SlotRow)
    → KeepsRecipient change → n ≡ with_slot slot change m → Changes stamp m n before after
