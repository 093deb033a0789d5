-- Where the first byte stands that passes a test.
use Rattle.std.proofs.Common.{◌≡◌, ◌<◌, ℕ, zero, suc, List, [], ◌∷◌, length, Bool, false, Option, Some, None, refl, arith}
use Rattle.std.specs.List.{position, position_or_len}
use Rattle.std.proofs.lemmas.Bool.{false_from_ne_true, lt-ltb, le-ltb}
use Rattle.memchr.specs.Find.{IsFirstByte, Nowhere, Passes}

-- none of the first ones passes, and the next one does
stands : (test : ℕ → Bool) (xs : List ℕ) (k : ℕ) → k < length xs → Nowhere (Passes test xs) 0 k → Passes test xs k → position_or_len test xs ≡ k
stands test [] k lt before here = absurd (omega arith)
stands test (x ∷ xs) zero lt before here = rw here refl
stands test (x ∷ xs) (suc k) lt before here =
    let first : test x ≡ false = false_from_ne_true (test x) (before 0 (omega arith) (omega arith)) in
    let later : position_or_len test xs ≡ k = stands test xs k (omega arith) (λ j low high. before (suc j) (omega arith) (omega arith)) here in
    rw first (omega (arith, later))

stands_nowhere : (test : ℕ → Bool) (xs : List ℕ) → Nowhere (Passes test xs) 0 (length xs) → position_or_len test xs ≡ length xs
stands_nowhere test [] none = refl
stands_nowhere test (x ∷ xs) none =
    let first : test x ≡ false = false_from_ne_true (test x) (none 0 (omega arith) (omega arith)) in
    let later : position_or_len test xs ≡ length xs = stands_nowhere test xs (λ j low high. none (suc j) (omega arith) (omega arith)) in
    rw first (omega (arith, later))

pub first_is_position : (test : ℕ → Bool) (xs : List ℕ) (r : Option ℕ) → IsFirstByte test xs r → r ≡ position test xs
first_is_position test xs None none = let e = stands_nowhere test xs none in rw (e, le-ltb (length xs) (length xs) (omega arith)) refl
first_is_position test xs (Some k) first =
    let e = stands test xs k first.0.high first.0.before first.1 in rw (e, lt-ltb k (length xs) first.0.high) refl
