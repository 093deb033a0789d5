-- The laws of edits: what becomes of the rows of each queue and consumer, and of the stamps, when an entry comes, goes or changes.
use Rattle.std.specs.Prelude.{◌≡◌, ◌≢◌, ◌<◌, ◌≤◌, ℕ, false, List, [], ◌∷◌, ◌++◌, Option, Some, remove, slice_get, if◌then◌else◌}
use Rattle.std.specs.List.{All}
use Rattle.std.specs.Str.{bytes_eq}
use Rattle.std.specs.declared.cmp.Ordering.TheVariants.{Equal}
use Rattle.queue_rows.specs.declared.rows.MsgRow.{MsgRow}
use Rattle.choice_laws.specs.Entries.{Entry, Row, AreBelow, AreRising, moved_row, row_cmp, row_of, rows_for, stands_for, with_message, with_row, without_queue, without_row}

-- an entry at the end, with a greater stamp, adds its row where it has one
abbrev pub RowsAfterPush : Type 0
RowsAfterPush = (queue : List ℕ) (consumer : Option (List ℕ)) (entries : List Entry) (e : Entry) → AreBelow e.stamp entries
    → rows_for queue consumer (entries ++ e ∷ []) ≡ with_row (stands_for queue consumer e.message) (row_of e) (rows_for queue consumer entries)

-- an entry that goes takes its row with it
abbrev pub RowsAfterRemoval : Type 0
RowsAfterRemoval = (queue : List ℕ) (consumer : Option (List ℕ)) (entries : List Entry) (at : ℕ) (e : Entry) → AreRising entries → slice_get entries at ≡ Some e
    → rows_for queue consumer (remove entries at) ≡ without_row (row_of e) (rows_for queue consumer entries)

-- where the message of an entry is changed and keeps its place, its row goes, comes or stays
abbrev pub RowsAfterChange : Type 0
RowsAfterChange = (queue : List ℕ) (consumer : Option (List ℕ)) (entries : List Entry) (at : ℕ) (e : Entry) (m : MsgRow)
    → AreRising entries → slice_get entries at ≡ Some e → m.place ≡ e.message.place
    → rows_for queue consumer (with_message entries at e m) ≡ moved_row (stands_for queue consumer e.message) (stands_for queue consumer m) (row_of e) (rows_for queue consumer entries)

-- so rows stay where it stands there now as before
abbrev pub RowsStay : Type 0
RowsStay = (queue : List ℕ) (consumer : Option (List ℕ)) (entries : List Entry) (at : ℕ) (e : Entry) (m : MsgRow)
    → AreRising entries → slice_get entries at ≡ Some e → m.place ≡ e.message.place → stands_for queue consumer m ≡ stands_for queue consumer e.message
    → rows_for queue consumer (with_message entries at e m) ≡ rows_for queue consumer entries

-- a queue whose messages go has no rows, and each other queue keeps its rows
abbrev pub RowsAfterDrop : Type 0
RowsAfterDrop = (queue : List ℕ) (consumer : Option (List ℕ)) (entries : List Entry) (dropped : List ℕ)
    → rows_for queue consumer (without_queue dropped entries) ≡ (if bytes_eq queue dropped then [] else rows_for queue consumer entries)

-- no row ties with that row
abbrev pub IsFree : Row → List Row → Type 0
IsFree row rows = All (λ r. row_cmp r row ≢ Equal) rows

-- the row of an entry with a greater stamp ties with none
abbrev pub NewRowIsFree : Type 0
NewRowIsFree = (queue : List ℕ) (consumer : Option (List ℕ)) (entries : List Entry) (e : Entry) → AreBelow e.stamp entries → IsFree (row_of e) (rows_for queue consumer entries)

-- the row of an entry that has none for the queue and consumer ties with none of theirs
abbrev pub MissingRowIsFree : Type 0
MissingRowIsFree = (queue : List ℕ) (consumer : Option (List ℕ)) (entries : List Entry) (at : ℕ) (e : Entry)
    → AreRising entries → slice_get entries at ≡ Some e → stands_for queue consumer e.message ≡ false → IsFree (row_of e) (rows_for queue consumer entries)

-- stamps rise after each edit where they rose before it
pub record StampsRise : Type 0 where
  pub push : (entries : List Entry) (e : Entry) → AreRising entries → AreBelow e.stamp entries → AreRising (entries ++ e ∷ [])
  pub removal : (entries : List Entry) (at : ℕ) → AreRising entries → AreRising (remove entries at)
  pub change : (entries : List Entry) (at : ℕ) (e : Entry) (m : MsgRow) → AreRising entries → slice_get entries at ≡ Some e → AreRising (with_message entries at e m)
  pub drop : (entries : List Entry) (dropped : List ℕ) → AreRising entries → AreRising (without_queue dropped entries)

-- and stay below a number
pub record StampsStayBelow : Type 0 where
  pub push : (n : ℕ) (entries : List Entry) (e : Entry) → AreBelow n entries → e.stamp < n → AreBelow n (entries ++ e ∷ [])
  pub later : (n more : ℕ) (entries : List Entry) → n ≤ more → AreBelow n entries → AreBelow more entries
  pub removal : (n : ℕ) (entries : List Entry) (at : ℕ) → AreBelow n entries → AreBelow n (remove entries at)
  pub change : (n : ℕ) (entries : List Entry) (at : ℕ) (e : Entry) (m : MsgRow) → AreBelow n entries → slice_get entries at ≡ Some e → AreBelow n (with_message entries at e m)
  pub drop : (n : ℕ) (entries : List Entry) (dropped : List ℕ) → AreBelow n entries → AreBelow n (without_queue dropped entries)
