-- One item more of a list that is read.
use Rattle.std.proofs.Common.{◌≡◌, List, [], ◌∷◌, ◌++◌, Option, option_map, length, refl, arith}
use Rattle.serde_json.specs.View.{items_view}
use Rattle.serde_json.specs.declared.value.Value.{Value}
use Rattle.script_text.specs.Member.{item_count}

-- how many items there are
pub count_items : (xs : List Value) → item_count (items_view xs) ≡ length xs
count_items [] = refl
count_items (x ∷ xs) = omega (arith, count_items xs)

-- what was read, and what is still to be read
abbrev pub onto : {A : Type 0} → List A → Option (List A) → Option (List A)
onto found rest = option_map (λ more. found ++ more) rest
