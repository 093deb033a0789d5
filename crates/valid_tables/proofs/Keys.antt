-- The orders of keys, and when two keys are equal.
use Rattle.std.proofs.Common.{◌≡◌, ℕ, List, arith, Bool, true, false, ◌&&◌, refl, ◌∙◌, ap, cond, ◌||◌}
use Rattle.std.specs.Prelude.{◌==◌}
use Rattle.std.specs.Cmp.Lexicographic.{slice_cmp}
use Rattle.std.specs.Ordering.{is_eq, nat_cmp, ordering_then}
use Rattle.std.specs.declared.cmp.Ordering.{Ordering}
use Rattle.std.specs.declared.cmp.Ordering.TheVariants.{Less, Equal, Greater}
use Rattle.std.specs.Str.{bytes_eq}
use Rattle.valid_tables.specs.Met.{pair_cmp}
use Rattle.std.proofs.lemmas.Map.Text.{is_eq-slice_cmp}

-- pairs of numbers, by the first, and then by the second
abbrev pub number_pair_cmp : ℕ × ℕ → ℕ × ℕ → Ordering
number_pair_cmp a b = ordering_then (nat_cmp a.0 b.0) (nat_cmp a.1 b.1)

both_equal : (a b : Ordering) → is_eq (ordering_then a b) ≡ (is_eq a && is_eq b)
both_equal Less b = refl
both_equal Equal b = refl
both_equal Greater b = refl

pub number_is : (a b : ℕ) → is_eq (nat_cmp a b) ≡ (a == b)
number_is a b = grind arith

pub name_is : (a b : List ℕ) → is_eq (slice_cmp nat_cmp a b) ≡ bytes_eq a b
name_is a b = is_eq-slice_cmp a b

pub numbers_are : (a b : ℕ × ℕ) → is_eq (number_pair_cmp a b) ≡ ((a.0 == b.0) && (a.1 == b.1))
numbers_are a b = both_equal (nat_cmp a.0 b.0) (nat_cmp a.1 b.1) ∙ ap (λ e. e && is_eq (nat_cmp a.1 b.1)) (number_is a.0 b.0) ∙ ap (λ e. (a.0 == b.0) && e) (number_is a.1 b.1)

pub names_are : (a b : List ℕ × List ℕ) → is_eq (pair_cmp a b) ≡ (bytes_eq a.0 b.0 && bytes_eq a.1 b.1)
names_are a b =
    both_equal (slice_cmp nat_cmp a.0 b.0) (slice_cmp nat_cmp a.1 b.1) ∙ ap (λ e. e && is_eq (slice_cmp nat_cmp a.1 b.1)) (name_is a.0 b.0)
    ∙ ap (λ e. bytes_eq a.0 b.0 && e) (name_is a.1 b.1)

-- whether a key is in a set to which another one came
pub or_before : (a b : Bool) → cond a true b ≡ (a || b)
or_before true b = refl
or_before false b = refl
