-- How what is told of numbers and of pairs of numbers changes.
use Rattle.std.specs.Prelude.{◌≡◌, ℕ, if◌then◌else◌, nat_eq}
use Rattle.row_locks.specs.Entries.{is_same_slot}

-- each pair keeps its value
abbrev pub SameValues : {A : Type 0} → (ℕ → ℕ → A) → (ℕ → ℕ → A) → Type 0
SameValues old new = (k r : ℕ) → new k r ≡ old k r

-- the pair gets the value, and each other one keeps its own
abbrev pub SetsValue : {A : Type 0} → (ℕ → ℕ → A) → (ℕ → ℕ → A) → ℕ → ℕ → A → Type 0
SetsValue old new a b value = (k r : ℕ) → new k r ≡ (if is_same_slot (a, b) (k, r) then value else old k r)

-- the number gets the value, and each other one keeps its own
abbrev pub SetsAt : {A : Type 0} → (ℕ → A) → (ℕ → A) → ℕ → A → Type 0
SetsAt old new n value = (k : ℕ) → new k ≡ (if nat_eq n k then value else old k)
