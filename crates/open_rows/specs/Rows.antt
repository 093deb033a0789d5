-- Rows of one kind while a commit is made.
use Rattle.std.specs.Prelude.{ℕ, List, Bool, filter}
use Rattle.queue_rows.specs.Rows.{removed_first}

-- the rows, and for how many more there is memory
pub record Rows (R : Type 0) : Type 0 where
  pub items : List R
  pub room : ℕ

-- the rows that pass the test
abbrev pub filtered : {R : Type 0} → (R → Bool) → Rows R → Rows R
filtered test rows = record rows { items = filter test rows.items }

-- the rows without the first that passes the test
abbrev pub without_first : {R : Type 0} → (R → Bool) → Rows R → Rows R
without_first test rows = record rows { items = removed_first test rows.items }
