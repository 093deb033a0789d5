-- What an index of ids shows.
use Rattle.std.specs.Prelude.{ℕ, List}

-- the ids in the order of the list, the stamp of each, and for how many more there is memory
pub record Indexed : Type 0 where
  pub ids : List ℕ
  pub stamps : List ℕ
  pub room : ℕ
