-- The rows past a place.
use Rattle.std.proofs.Common.{◌≡◌, ℕ, ◌+◌, zero, suc, drop, slice_get, arith, ℤ, cond, not, List, [], ◌∷◌, filter, Some, None, refl, ap, ◌∙◌}
use Rattle.std.specs.Ordering.{is_gt, is_lt}
use Rattle.std.specs.declared.cmp.Ordering.{Ordering}
use Rattle.std.specs.declared.cmp.Ordering.TheVariants.{Less, Equal, Greater}
use Rattle.row_tree.specs.Order.{past_row}
use Rattle.place_keys.specs.Place.{place_cmp}
use Rattle.sort_index.specs.Ready.{is_past}
use Rattle.sort_index.specs.declared.group.Ready.{Ready}

-- past no place are all
pub all_past : (rows : List Ready) → rows ≡ filter (is_past None) rows
all_past [] = refl
all_past (row ∷ rows) = ap (λ rs. row ∷ rs) (all_past rows)

not_before : (o : Ordering) → not (is_lt (past_row o)) ≡ is_gt o
not_before Less = refl
not_before Equal = refl
not_before Greater = refl

-- what does not stand before the end of a place stands past it
pub behind_past : (place : List ℤ) (rows : List Ready) → filter (λ row. not (is_lt (past_row (place_cmp row.place place)))) rows ≡ filter (is_past (Some place)) rows
behind_past place [] = refl
behind_past place (row ∷ rows) =
    let kept = filter (λ r. not (is_lt (past_row (place_cmp r.place place)))) rows in
    ap (λ b. cond b (row ∷ kept) kept) (not_before (place_cmp row.place place))
    ∙ ap (λ rs. cond (is_gt (place_cmp row.place place)) (row ∷ rs) rs) (behind_past place rows)

-- ---- the rows from an index on

module _ {T : Type 0} where
  pub none_left : (xs : List T) (at : ℕ) → slice_get xs at ≡ None → drop at xs ≡ []
  none_left [] zero none = refl
  none_left [] (suc at) none = refl
  none_left (x ∷ xs) zero none = cc none
  none_left (x ∷ xs) (suc at) none = none_left xs at none

  pub first_left : (xs : List T) (at : ℕ) (x : T) → slice_get xs at ≡ Some x → drop at xs ≡ x ∷ drop (at + 1) xs
  first_left [] at x e = cc e
  first_left (y ∷ ys) zero x e = let same : y ≡ x = cc e in ap (λ z. z ∷ ys) same
  first_left (y ∷ ys) (suc i) x e = let on : suc (i + 1) ≡ suc i + 1 = omega arith in first_left ys i x e ∙ ap (λ n. x ∷ drop n (y ∷ ys)) on
