-- Lists of entries, each made by an actor.
use Rattle.std.specs.Prelude.{◌≡◌, ℕ, ◌==◌, ltb, List, length, filter, All, cond}

-- the entries of one actor, in their order
abbrev pub entries_by : {E : Type 0} → (E → ℕ) → ℕ → List E → List E
entries_by actor a log = filter (λ e. actor e == a) log

-- each entry was made by this actor
abbrev pub AllBy : {E : Type 0} → (E → ℕ) → ℕ → List E → Type 0
AllBy actor a log = All (λ e. actor e ≡ a) log

-- the longer of two lists
abbrev pub longer : {E : Type 0} → List E → List E → List E
longer xs ys = cond (ltb (length xs) (length ys)) ys xs
