-- The rows on a path through a tree.
use Rattle.std.specs.Prelude.{◌≡◌, ◌≢◌, ℕ, List, [], ◌∷◌, ◌++◌, drop, Option, Some, None, IsSome}
use Rattle.std.specs.Borrow.{Bor}
use Rattle.std.specs.Option.{option_to_list}
use Rattle.row_tree.specs.declared.tree.Fork.{Fork}

-- the row of a fork, and those right of it
abbrev pub from_row : {T : Type 0} → Option (Bor (Fork T)) → List T
from_row None = []
from_row (Some fork) = option_to_list fork.now.row ++ fork.now.right

-- the rows of forks and right of them, those of the last fork first
abbrev pub ahead : {T : Type 0} → List (Option (Bor (Fork T))) → List T
ahead [] = []
ahead (fork ∷ forks) = ahead forks ++ from_row fork

-- a fork, with a row
abbrev pub HasRow : {T : Type 0} → Option (Bor (Fork T)) → Type 0
HasRow None = ⊥
HasRow (Some fork) = IsSome fork.now.row

-- each is a fork with a row
abbrev pub HaveRows : {T : Type 0} → List (Option (Bor (Fork T))) → Type 0
HaveRows [] = Unit {0}
HaveRows (fork ∷ forks) = HasRow fork × HaveRows forks

-- what is on the path, if anything is, are the rows from an index on
abbrev pub IsAhead : {T : Type 0} → List T → ℕ → List T → Type 0
IsAhead path at rows = path ≢ [] → path ≡ drop at rows
