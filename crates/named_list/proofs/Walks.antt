-- A search that goes from row to row.
use Rattle.std.proofs.Common.{◌≡◌, ℕ, ◌+◌, ◌≤◌, suc, zero, Bool, true, false, cond, List, [], ◌∷◌, length, drop, slice_get, Some, None, refl, sym, ap, ◌∙◌, arith}
use Rattle.std.specs.List.{find}

-- the row at the index is none, so the search goes on behind it
pub goes_on : {T : Type 0} (q : T → Bool) (xs : List T) (i : ℕ) (x : T) → slice_get xs i ≡ Some x → q x ≡ false → find q (drop (i + 1) xs) ≡ find q (drop i xs)
goes_on q [] i x there fails = cc there
goes_on q (y ∷ ys) zero x there fails =
    let same : y ≡ x = cc there in
    sym (ap (λ b. cond b (Some y) (find q ys)) (ap q same ∙ fails))
goes_on q (y ∷ ys) (suc i) x there fails =
    let e : suc i + 1 ≡ suc (i + 1) = omega arith in
    ap (λ n. find q (drop n (y ∷ ys))) e ∙ goes_on q ys i x there fails

-- the row at the index is the one
pub is_found : {T : Type 0} (q : T → Bool) (xs : List T) (i : ℕ) (x : T) → slice_get xs i ≡ Some x → q x ≡ true → find q (drop i xs) ≡ Some x
is_found q [] i x there passes = cc there
is_found q (y ∷ ys) zero x there passes =
    let same : y ≡ x = cc there in
    ap (λ b. cond b (Some y) (find q ys)) (ap q same ∙ passes) ∙ ap Some same
is_found q (y ∷ ys) (suc i) x there passes = is_found q ys i x there passes

-- there is no row at the index
pub is_over : {T : Type 0} (q : T → Bool) (xs : List T) (i : ℕ) → slice_get xs i ≡ None → find q (drop i xs) ≡ None
is_over q [] zero none = refl
is_over q [] (suc i) none = refl
is_over q (y ∷ ys) zero none = cc none
is_over q (y ∷ ys) (suc i) none = is_over q ys i none

pub is_past : {T : Type 0} (q : T → Bool) (xs : List T) (i : ℕ) → length xs ≤ i → find q (drop i xs) ≡ None
is_past q [] zero past = refl
is_past q [] (suc i) past = refl
is_past q (y ∷ ys) zero past = absurd (omega arith)
is_past q (y ∷ ys) (suc i) past = is_past q ys i (omega arith)
