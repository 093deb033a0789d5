-- The first place at which a test passes, if it passes.
use Rattle.std.proofs.Common.{◌≡◌, ℕ, ◌≤◌, Bool, true, false, not, List, Some, None, cond, refl, arith, length}
use Rattle.std.specs.Prelude.{nat_lt, position}
use Rattle.std.specs.List.{position_or_len}
use Rattle.std.proofs.lemmas.Bool.{ltb-false}
use Rattle.std.proofs.lemmas.List.Sums.{prefix_len-le-length}

found_if : (b : Bool) (m n : ℕ) → cond b (Some m) None ≡ Some n → n ≡ m
found_if true m n e = let same : Some m ≡ Some n = e in cc
found_if false m n e = absurd (let no : None ≡ Some n = e in cc)

pub found_at : {X : Type 0} (p : X → Bool) (xs : List X) (n : ℕ) → position p xs ≡ Some n → n ≡ position_or_len p xs
found_at p xs n e = found_if (nat_lt (position_or_len p xs) (length xs)) (position_or_len p xs) n e

past_if : (b : Bool) (m : ℕ) → cond b (Some m) None ≡ None → b ≡ false
past_if true m e = absurd (let no : Some m ≡ None = e in cc)
past_if false m e = refl

pub found_nowhere : {X : Type 0} (p : X → Bool) (xs : List X) → position p xs ≡ None → length xs ≡ position_or_len p xs
found_nowhere p xs e =
    let past = ltb-false (position_or_len p xs) (length xs) (past_if (nat_lt (position_or_len p xs) (length xs)) (position_or_len p xs) e) in
    let most : position_or_len p xs ≤ length xs = prefix_len-le-length (λ x. not (p x)) xs in
    omega (arith, past, most)
