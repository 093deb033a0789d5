-- The rows of what is due beside the messages, where they are kept.
use Rattle.std.specs.Prelude.{◌≡◌, ◌≢◌, ℕ, List, ◌∷◌, Bool, true, find, Option, IfSome}
use Rattle.std.specs.List.{AllByRecursion}
use Rattle.std.specs.Option.{option_map_or}
use Rattle.std.specs.Str.{bytes_eq}
use Rattle.due_index.specs.Due.{DueRows}
use Rattle.due_index.specs.declared.row.DueRow.{DueRow}
use Rattle.due_slots.specs.Indexed.{has}
use Rattle.due_slots.specs.Rows.{rows_of}
use Rattle.queue_rows.specs.Rows.{find_queue}
use Rattle.queue_rows.specs.declared.rows.MsgRow.{MsgRow}
use Rattle.queue_rows.specs.declared.tables.Tables.{Tables}
use Rattle.message_index.specs.declared.due_cache.KeepRow.{KeepRow}

-- for how long the queue keeps messages, by the list
abbrev pub keeps_in : List KeepRow → List ℕ → ℕ
keeps_in keeps queue = option_map_or (λ k. k.retention) (find (λ k. bytes_eq k.queue queue) keeps) 0

-- for how long it keeps them, by the tables
abbrev pub retention_in : Tables → List ℕ → ℕ
retention_in t queue = option_map_or (λ q. q.retention) (find_queue t queue) 0

-- the rows of the message are among these
abbrev pub HasRows : (List ℕ → ℕ) → List DueRow → MsgRow → Type 0
HasRows keeps rows m = (row : DueRow) → has (rows_of (keeps m.queue) m) row ≡ true → has rows row ≡ true

-- where there are rows, those of each message are among them
abbrev pub IfDue : (List ℕ → ℕ) → List MsgRow → Option DueRows → Type 0
IfDue keeps messages due = IfSome due (λ d. AllByRecursion (HasRows keeps d.rows) messages)

-- ---- edits

-- no message is lost but those of a number, and none where the number may have several
abbrev pub Loses : (List ℕ → ℕ) → Bool → ℕ → (before after : Option DueRows) → Type 0
Loses keeps alone id before after = (messages : List MsgRow) → (alone ≡ true → AllByRecursion (λ m. m.id ≢ id) messages)
    → IfDue keeps messages before → IfDue keeps messages after

-- a message is gained
abbrev pub Gains : (List ℕ → ℕ) → MsgRow → (before after : Option DueRows) → Type 0
Gains keeps m before after = (messages : List MsgRow) → IfDue keeps messages before → IfDue keeps (m ∷ messages) after
