-- The rows from an index on.
use Rattle.std.proofs.Common.{◌≡◌, ◌≢◌, ℕ, ◌+◌, ◌<◌, suc, zero, true, false, List, [], ◌∷◌, length, drop, slice_get, Some, None, refl, ap, ◌∙◌, arith}
use Rattle.std.specs.Option.{option_map_or}
use Rattle.row_tree.proofs.Places.{within_there}

pub none_left : {T : Type 0} (xs : List T) (at : ℕ) → slice_get xs at ≡ None → drop at xs ≡ []
none_left [] zero e = refl
none_left [] (suc i) e = refl
none_left (x ∷ xs) zero e = cc e
none_left (x ∷ xs) (suc i) e = none_left xs i e

pub first_left : {T : Type 0} (xs : List T) (at : ℕ) (x : T) → slice_get xs at ≡ Some x → drop at xs ≡ x ∷ drop (at + 1) xs
first_left [] at x e = cc e
first_left (y ∷ ys) zero x e = let same : y ≡ x = cc e in ap (λ z. z ∷ ys) same
first_left (y ∷ ys) (suc i) x e = let on : suc (i + 1) ≡ suc i + 1 = omega arith in first_left ys i x e ∙ ap (λ n. x ∷ drop n (y ∷ ys)) on

pub is_within : {T : Type 0} (xs : List T) (at : ℕ) (x : T) → slice_get xs at ≡ Some x → at < length xs
is_within xs at x e = within_there (λ _. true) xs at (ap (λ o. option_map_or (λ _. true) o false) e)

pub is_there : {T : Type 0} (xs : List T) (at : ℕ) → at < length xs → slice_get xs at ≢ None
is_there [] at within none = absurd (omega arith)
is_there (x ∷ xs) zero within none = cc none
is_there (x ∷ xs) (suc i) within none = is_there xs i (omega arith) none
