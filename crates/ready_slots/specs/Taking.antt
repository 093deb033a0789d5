-- What of the rows of each queue and consumer is left when some of them lose a row.
use Rattle.std.specs.Prelude.{◌≡◌, ℕ, ℤ, Bool, cond, map, List, Option}
use Rattle.queue_rows.specs.declared.rows.MsgRow.{MsgRow}
use Rattle.sort_index.specs.Ready.{is_of, key, rows_of}
use Rattle.sort_index.specs.declared.group.Group.{Group}
use Rattle.choice_laws.specs.Entries.{Row, without_row}
use Rattle.ready_slots.specs.Indexed.{stamped}
use Rattle.ready_slots.specs.Shown.{is_any_offered, is_nameless}

-- the rows of a queue and consumer, without their slots
abbrev pub told : List ℕ → Option (List ℕ) → List Group → List Row
told queue consumer groups = map stamped (rows_of queue consumer groups)

-- the row of the message under the stamp
abbrev pub row_at : ℕ → MsgRow → Row
row_at stamp m = record { place = m.place; stamp = stamp }

-- the rows without that one, where the flag says so
abbrev pub taken_where : Bool → Row → List Row → List Row
taken_where goes row rows = cond goes (without_row row rows) rows

-- a queue and a consumer lose the row, and every other one has what it had
abbrev pub TakesRow : List ℕ → Option (List ℕ) → List ℤ → ℕ → (before after : List Group) → Type 0
TakesRow queue consumer place stamp before after = (q : List ℕ) (c : Option (List ℕ))
    → told q c after ≡ taken_where (is_of q c (key queue consumer)) (record { place = place; stamp = stamp }) (told q c before)

-- the nameless consumer loses the row, where it is shown the message
abbrev pub TakesNameless : MsgRow → ℕ → (before after : List Group) → Type 0
TakesNameless m stamp before after = (q : List ℕ) (c : Option (List ℕ))
    → told q c after ≡ taken_where (is_nameless m q c) (row_at stamp m) (told q c before)

-- each consumer to whom a slot of the message is offered loses the row
abbrev pub TakesEach : MsgRow → ℕ → (before after : List Group) → Type 0
TakesEach m stamp before after = (q : List ℕ) (c : Option (List ℕ))
    → told q c after ≡ taken_where (is_any_offered m.queue m.slots q c) (row_at stamp m) (told q c before)
