-- Where a name stands in a list of names.
use Rattle.std.specs.Prelude.{ℕ, suc, cond, List, [], ◌∷◌}
use Rattle.std.specs.Str.{bytes_eq}

-- the places of a name in a list whose first one has that number
abbrev pub places_from : ℕ → List ℕ → List (List ℕ) → List ℕ
places_from at name [] = []
places_from at name (n ∷ ns) = cond (bytes_eq n name) (at ∷ places_from (suc at) name ns) (places_from (suc at) name ns)

-- the places of a name, in their order
abbrev pub places_of : List ℕ → List (List ℕ) → List ℕ
places_of name names = places_from 0 name names
