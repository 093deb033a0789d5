-- The slots of a message from an index on.
use Rattle.std.proofs.Common.{◌≡◌, ℕ, ◌+◌, ◌≤◌, ◌++◌, suc, zero, length, List, [], ◌∷◌, drop, slice_get, Option, Some, None, ap, sym, ◌∙◌, append_assoc, arith}
use Rattle.std.specs.Prelude.{option_to_list}
use Rattle.std.proofs.lemmas.List.{drop_all}
use Rattle.std.specs.List.{cons_option, filter_map, enumerate_from}

first_left : {T : Type 0} (xs : List T) (at : ℕ) (x : T) → slice_get xs at ≡ Some x → drop at xs ≡ x ∷ drop (at + 1) xs
first_left [] at x e = cc e
first_left (y ∷ ys) zero x e = let same : y ≡ x = cc e in ap (λ z. z ∷ ys) same
first_left (y ∷ ys) (suc i) x e = let on : suc (i + 1) ≡ suc i + 1 = omega arith in first_left ys i x e ∙ ap (λ n. x ∷ drop n (y ∷ ys)) on

put_before : {C : Type 0} (before : List C) (c : Option C) (rest : List C) → (before ++ option_to_list c) ++ rest ≡ before ++ cons_option c rest
put_before before None rest = simp append_assoc
put_before before (Some c) rest = simp append_assoc

-- what a test gives of the numbered items from an index on begins with what it gives of the one there
pub from_next : {T C : Type 0} (f : ℕ × T → Option C) (before : List C) (xs : List T) (at : ℕ) (x : T) → slice_get xs at ≡ Some x
    → (before ++ option_to_list (f (at + 1, x))) ++ filter_map f (enumerate_from (at + 1 + 1) (drop (at + 1) xs))
    ≡ before ++ filter_map f (enumerate_from (at + 1) (drop at xs))
from_next f before xs at x e =
    put_before before (f (at + 1, x)) (filter_map f (enumerate_from (at + 1 + 1) (drop (at + 1) xs)))
    ∙ ap (λ ys. before ++ filter_map f (enumerate_from (at + 1) ys)) (sym (first_left xs at x e))

past_if_none : {T : Type 0} (xs : List T) (at : ℕ) → slice_get xs at ≡ None → length xs ≤ at
past_if_none [] at e = omega arith
past_if_none (x ∷ xs) zero e = cc e
past_if_none (x ∷ xs) (suc i) e = let h : length xs ≤ i = past_if_none xs i e in omega arith

-- where there is no item, there is none behind it
pub from_none : {T C : Type 0} (f : ℕ × T → Option C) (before : List C) (xs : List T) (at : ℕ) → slice_get xs at ≡ None
    → before ++ filter_map f (enumerate_from (at + 1 + 1) (drop (at + 1) xs)) ≡ before ++ filter_map f (enumerate_from (at + 1) (drop at xs))
from_none f before xs at e =
    let past : length xs ≤ at = past_if_none xs at e in
    ap (λ ys. before ++ filter_map f (enumerate_from (at + 1 + 1) ys)) (drop_all (at + 1) xs (omega arith))
    ∙ ap (λ ys. before ++ filter_map f (enumerate_from (at + 1) ys)) (sym (drop_all at xs past))
