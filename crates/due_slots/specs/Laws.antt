-- The laws of rows and the messages that they are of.
use Rattle.std.specs.Prelude.{◌≡◌, ◌≤◌, ◌+◌, ◌&&◌, ◌||◌, ℕ, true, not, length, List, Option, Some, None}
use Rattle.due_index.specs.declared.row.DueRow.{DueRow}
use Rattle.queue_rows.specs.Rows.{find_message, recipient_count}
use Rattle.queue_rows.specs.Settling.{retention_of}
use Rattle.queue_rows.specs.declared.tables.Tables.{Tables}
use Rattle.queue_rows.specs.declared.rows.MsgRow.{MsgRow}
use Rattle.due_slots.specs.Edits.{without, joined}
use Rattle.due_slots.specs.Indexed.{has, IndexesDue, DiffersAt}
use Rattle.due_slots.specs.Named.{NamesDue}
use Rattle.due_slots.specs.Rows.{rows_of}

-- which rows are left, and which there are
abbrev pub WithoutTells : Type 0
WithoutTells = (rows taken : List DueRow) (row : DueRow) → has (without rows taken) row ≡ (has rows row && not (has taken row))

abbrev pub JoinedTells : Type 0
JoinedTells = (rows more : List DueRow) (row : DueRow) → has (joined rows more) row ≡ (has rows row || has more row)

-- a message goes, and so do its rows
abbrev pub RemovingIndexes : Type 0
RemovingIndexes = (keeps : List ℕ → ℕ) (before after : ℕ → Option MsgRow) (m : MsgRow) (rows : List DueRow)
    → DiffersAt before after m.id (Some m) None → IndexesDue keeps before rows → IndexesDue keeps after (without rows (rows_of (keeps m.queue) m))

-- a message comes, and so do its rows
abbrev pub AddingIndexes : Type 0
AddingIndexes = (keeps : List ℕ → ℕ) (before after : ℕ → Option MsgRow) (m : MsgRow) (rows : List DueRow)
    → DiffersAt before after m.id None (Some m) → IndexesDue keeps before rows → IndexesDue keeps after (joined rows (rows_of (keeps m.queue) m))

-- rows among which are those of each message name what is due, where no queue keeps messages for less long than was taken
abbrev pub RowsNameDue : Type 0
RowsNameDue = (t : Tables) (keeps : List ℕ → ℕ) (rows : List DueRow)
    → ((m : MsgRow) → find_message t m.id ≡ Some m → keeps m.queue ≤ retention_of t m)
    → ((m : MsgRow) (row : DueRow) → find_message t m.id ≡ Some m → has (rows_of (keeps m.queue) m) row ≡ true → has rows row ≡ true)
    → NamesDue t rows

-- a message has a row for each recipient's slot, one for slot 0 and one of its own at most
abbrev pub RowsAreFew : Type 0
RowsAreFew = (retention : ℕ) (m : MsgRow) → length (rows_of retention m) ≤ recipient_count m + 2

-- the rows of a message have its number
abbrev pub RowsHaveItsNumber : Type 0
RowsHaveItsNumber = (retention : ℕ) (m : MsgRow) (row : DueRow) → has (rows_of retention m) row ≡ true → m.id ≡ row.id
