-- Lists in which the rows that pass a test stand first.
use Rattle.std.specs.Prelude.{◌≡◌, Bool, false, List, [], ◌∷◌}

-- none passes
abbrev pub NonePass : {T : Type 0} → (T → Bool) → List T → Type 0
NonePass p [] = Unit {0}
NonePass p (x ∷ xs) = (p x ≡ false) × NonePass p xs

-- those that pass stand first
abbrev pub IsSplit : {T : Type 0} → (T → Bool) → List T → Type 0
IsSplit p [] = Unit {0}
IsSplit p (x ∷ xs) = (p x ≡ false → NonePass p xs) × IsSplit p xs
