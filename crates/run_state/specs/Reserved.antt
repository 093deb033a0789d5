-- A list of which it is known how much it can hold before it wants memory.
use Rattle.std.specs.Prelude.{◌≤◌, ◌+◌, ℕ, List, length}

pub record Reserved (T : Type 0) : Type 0 where
  pub items : List T
  pub capacity : ℕ

-- so many more items can be put in without memory
abbrev pub HasPlaces : {T : Type 0} → ℕ → Reserved T → Type 0
HasPlaces n l = length l.items + n ≤ l.capacity
