-- Items are written one by one, with commas between them.
use Rattle.std.proofs.Common.{ℕ, List, ◌++◌, Bool, true, false}
use Rattle.std.specs.Prelude.{codes}
use Rattle.std.specs.List.{flat_map, join_by}

-- the items that are left, where one stands before them or none does
abbrev pub left_text : {X : Type 0} → Bool → (X → List ℕ) → List X → List ℕ
left_text true f xs = flat_map (λ x. codes "," ++ f x) xs
left_text false f xs = join_by f (codes ",") xs
