-- When rows are those of messages.
use Rattle.std.specs.Prelude.{◌≡◌, ◌≢◌, ℕ, Bool, false, List, Option, Some, None}
use Rattle.std.specs.List.{list_any}
use Rattle.std.specs.Ordering.{is_eq}
use Rattle.due_index.specs.Due.{due_cmp}
use Rattle.due_index.specs.declared.row.DueRow.{DueRow}
use Rattle.queue_rows.specs.declared.rows.MsgRow.{MsgRow}
use Rattle.due_slots.specs.Rows.{rows_of}

-- the second row is the first
abbrev pub is_row : DueRow → DueRow → Bool
is_row row = λ other. is_eq (due_cmp other row)

abbrev pub has : List DueRow → DueRow → Bool
has rows row = list_any (is_row row) rows

-- it is a row of the message, where there is one; queues keep messages for so long
abbrev pub is_row_of : (List ℕ → ℕ) → Option MsgRow → DueRow → Bool
is_row_of keeps None row = false
is_row_of keeps (Some m) row = has (rows_of (keeps m.queue) m) row

-- each row is one of the message of its number, and each such row is there. The messages are told by their numbers, so that of
-- messages with one number only the first counts, as for who looks it up.
abbrev pub IndexesDue : (List ℕ → ℕ) → (ℕ → Option MsgRow) → List DueRow → Type 0
IndexesDue keeps message rows = (row : DueRow) → has rows row ≡ is_row_of keeps (message row.id) row

-- of one number there was this message and is that one, and of each other number there is what there was
pub record DiffersAt (before after : ℕ → Option MsgRow) (id : ℕ) (was is : Option MsgRow) : Type 0 where
  pub here_before : before id ≡ was
  pub here_after : after id ≡ is
  pub elsewhere : (other : ℕ) → other ≢ id → after other ≡ before other
