-- How many of the first ranks are of marks with a number, where the marks at ranks change.
use Rattle.std.proofs.Common.{◌≡◌, ◌≢◌, ℕ, zero, suc, ◌<◌, ◌≤◌, ◌+◌, Bool, true, false, cond, inl, inr, Option, refl, sym, ap, arith}
use Rattle.std.proofs.lemmas.Bool.{cases_eq, cases_Bool}
use Rattle.row_locks.specs.Groups.{is_number, number_count}

-- one, where the number is that
abbrev pub one : ℕ → Option ℕ → ℕ
one number other = cond (is_number number other) 1 0

pub number_count_same : (f g : ℕ → Option ℕ) (number count : ℕ) → ((r : ℕ) → r < count → g r ≡ f r) → number_count g number count ≡ number_count f number count
number_count_same f g number zero same = refl
number_count_same f g number (suc count) same = λ i. number_count_same f g number count (λ r below. same r (omega arith)) i + one number (same count (omega arith) i)

-- another number stands at one rank
pub number_count_changed : (f g : ℕ → Option ℕ) (number count rank : ℕ) → rank < count → ((r : ℕ) → r < count → r ≢ rank → g r ≡ f r) → number_count g number count + one number (f rank) ≡ number_count f number count + one number (g rank)
number_count_changed f g number zero rank below same = absurd (omega arith)
number_count_changed f g number (suc count) rank below same = elim (cases_eq rank count) [
  | inl here ↦
      let before = number_count_same f g number count (λ r less. same r (omega arith) (λ e. absurd (omega arith))) in
      let old = ap (λ r. one number (f r)) here in
      let new = ap (λ r. one number (g r)) here in
      omega (arith, before, old, new)
  | inr elsewhere ↦
      let before = number_count_changed f g number count rank (omega arith) (λ r less. same r (omega arith)) in
      let last = ap (one number) (same count (omega arith) (λ e. elsewhere (sym e))) in
      omega (arith, before, last)
]

one_bound : (b : Bool) → cond b 1 0 ≤ 1
one_bound true = omega arith
one_bound false = omega arith

pub number_count_bound : (f : ℕ → Option ℕ) (number count : ℕ) → number_count f number count ≤ count
number_count_bound f number zero = omega arith
number_count_bound f number (suc count) = omega (arith, number_count_bound f number count, one_bound (is_number number (f count)))

-- where some are counted, there is one
pub number_count_some : (f : ℕ → Option ℕ) (number count : ℕ) → 0 < number_count f number count → (rank : ℕ) × (rank < count) × (is_number number (f rank) ≡ true)
number_count_some f number zero some = absurd (omega arith)
number_count_some f number (suc count) some = elim (cases_Bool (is_number number (f count))) [
  | inl here ↦ (count, omega arith, here)
  | inr before ↦
      let none = ap {B = ℕ} (λ b. cond b 1 0) before in
      let it = number_count_some f number count (omega (arith, none)) in
      (it.0, omega (arith, it.1), it.2)
]

-- where there is one, some are counted
pub number_count_one : (f : ℕ → Option ℕ) (number count rank : ℕ) → rank < count → is_number number (f rank) ≡ true → 0 < number_count f number count
number_count_one f number zero rank below is = absurd (omega arith)
number_count_one f number (suc count) rank below is = elim (cases_eq rank count) [
  | inl here ↦
      let last = ap (λ r. one number (f r)) here in
      let it = ap {B = ℕ} (λ b. cond b 1 0) is in
      omega (arith, last, it)
  | inr before ↦ omega (arith, number_count_one f number count rank (omega arith) is)
]
