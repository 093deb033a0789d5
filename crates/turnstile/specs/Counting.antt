-- Actors that add numbers to a list of pairs of actor and number.
use Rattle.std.specs.Prelude.{◌≡◌, ℕ, zero, suc, ◌<◌, ◌≤◌, List, [], ◌∷◌, ◌++◌}
use Rattle.turnstile.specs.Entries.{entries_by}
use Rattle.turnstile.specs.Passes.{Known}

abbrev pub Pair : Type 0
Pair = ℕ × ℕ

abbrev pub actor_of : Pair → ℕ
actor_of e = e.0

-- one actor's numbers below n, in order
abbrev pub numbered : ℕ → ℕ → List Pair
numbered a zero = []
numbered a (suc n) = numbered a n ++ (a, n) ∷ []

-- what a pass knows after a turn: the list went on behind what it had seen, and ends with these entries, which are its own
pub record Adds (old new : Known ℕ Pair) (mine : List Pair) : Type 0 where
  pub between : List Pair
  pub seen : new.seen ≡ (old.seen ++ between) ++ mine
  pub knows : new ≡ record old { seen = new.seen; own = old.own ++ mine }

-- the list has of each actor its numbers below n in order, and of nobody else anything
pub record IsGathered (actors n : ℕ) (pairs : List Pair) : Type 0 where
  pub each : (a : ℕ) → a < actors → entries_by actor_of a pairs ≡ numbered a n
  pub nobody_else : (a : ℕ) → actors ≤ a → entries_by actor_of a pairs ≡ []
