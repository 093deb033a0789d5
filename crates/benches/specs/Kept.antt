-- Messages whose numbers are their positions.
use Rattle.std.specs.Prelude.{◌≡◌, ℕ, ◌+◌, List, [], ◌∷◌, Some, fold, slice_get}
use Rattle.due_index.specs.declared.row.DueRow.{DueRow}
use Rattle.queue_rows.specs.declared.rows.MsgRow.{MsgRow}
use Rattle.choice_laws.specs.Entries.{Entry}
use Rattle.due_slots.specs.Edits.{joined}
use Rattle.due_slots.specs.Rows.{rows_of}

-- each message has its position as its number
abbrev pub AreNumbered : List MsgRow → Type 0
AreNumbered messages = (at : ℕ) (m : MsgRow) → slice_get messages at ≡ Some m → m.id ≡ at

-- the messages under their positions, from one on
abbrev pub entries_from : ℕ → List MsgRow → List Entry
entries_from n [] = []
entries_from n (m ∷ ms) = record { stamp = n; message = m } ∷ entries_from (n + 1) ms

-- the rows of what is due, one message after the other; queues keep messages for no time
abbrev pub rows_after : List DueRow → List MsgRow → List DueRow
rows_after rows messages = fold (λ all m. joined all (rows_of 0 m)) rows messages
