-- The rows that pass no test are left by a walk that takes out the others, one by one.
use Rattle.std.proofs.Common.{◌≡◌, ℕ, zero, suc, ◌≤◌, List, [], ◌∷◌, ◌++◌, take, drop, length, Bool, true, false, cond, not, filter, Some, None, refl, sym, ap, arith}
use Rattle.std.specs.Prelude.{option_map, remove, slice_get}

module _ {X : Type 0} (goes : X → Bool) where
  -- the rows before the walk, and those to come that stay
  abbrev pub walked : ℕ → List X → List X
  walked at rows = take at rows ++ filter (λ x. not (goes x)) (drop at rows)

  first : (y : X) (ys : List X) (b : Bool) → Some b ≡ Some (goes y) → cond (not b) (y ∷ filter (λ x. not (goes x)) ys) (filter (λ x. not (goes x)) ys) ≡ walked 0 (y ∷ ys)
  first y ys b is =
      let same : b ≡ goes y = cc in
      ap (λ t. cond (not t) (y ∷ filter (λ x. not (goes x)) ys) (filter (λ x. not (goes x)) ys)) same

  pub one_stays : (at : ℕ) (rows : List X) → Some false ≡ option_map goes (slice_get rows at) → walked (suc at) rows ≡ walked at rows
  one_stays at [] is = cc
  one_stays zero (y ∷ ys) is = first y ys false is
  one_stays (suc at) (y ∷ ys) is = ap (λ zs. y ∷ zs) (one_stays at ys is)

  pub one_goes : (at : ℕ) (rows : List X) → Some true ≡ option_map goes (slice_get rows at) → walked at (remove rows at) ≡ walked at rows
  one_goes at [] is = cc
  one_goes zero (y ∷ ys) is = first y ys true is
  one_goes (suc at) (y ∷ ys) is = ap (λ zs. y ∷ zs) (one_goes at ys is)

  past : (at : ℕ) (rows : List X) → None ≡ option_map goes (slice_get rows at) → length rows ≤ at
  past at [] is = omega arith
  past zero (y ∷ ys) is = cc
  past (suc at) (y ∷ ys) is = let h = past at ys is in omega (arith, h)

  all_walked : (at : ℕ) (rows : List X) → length rows ≤ at → walked at rows ≡ rows
  all_walked zero [] long = refl
  all_walked (suc at) [] long = refl
  all_walked zero (y ∷ ys) long = absurd (omega arith)
  all_walked (suc at) (y ∷ ys) long = ap (λ zs. y ∷ zs) (all_walked at ys (omega arith))

  -- past the end there is nothing left to walk over
  pub none_left : (at : ℕ) (rows : List X) → None ≡ option_map goes (slice_get rows at) → rows ≡ walked at rows
  none_left at rows is = sym (all_walked at rows (past at rows is))
