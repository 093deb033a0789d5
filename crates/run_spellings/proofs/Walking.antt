-- What holds of each item, one after another.
use Rattle.std.proofs.Common.{◌≡◌, List, ◌∷◌, Bool, true}
use Rattle.std.specs.List.{list_all}
use Rattle.std.proofs.lemmas.Bool.{and_from}

pub all_goes_on : {X : Type 0} (p : X → Bool) (T : Type 0) (x : X) (rest : List X) → p x ≡ true → (list_all p (x ∷ rest) ≡ true → T) → list_all p rest ≡ true → T
all_goes_on p T x rest here so_far h = so_far (and_from (p x) (list_all p rest) here h)
