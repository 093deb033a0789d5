-- One reading more.
use Rattle.std.proofs.Common.{◌≡◌, ℕ, ◌+◌, ◌-◌, ◌^◌, ◌<◌, ◌≤◌, Bool, true, List, [], ◌∷◌, ◌++◌, length, Some, sym, ◌∙◌, ap, arith}
use Rattle.std.specs.Prelude.{nat_lt, IsSome, if◌then◌else◌, None, is_some}
use Rattle.std.proofs.lemmas.Grind.{common_steps}
use Rattle.std.proofs.lemmas.List.FromFn.{length-map-range_with_len, map-range_with_len_more}
use Rattle.aq_clock.specs.Clock.{first_readings, told, told_some}

lt_test : (a b : ℕ) → a < b → nat_lt a b ≡ true
lt_test a b lt = grind (arith, common_steps)

told_below : (rule : ℕ → ℕ) (count : ℕ) → count < 2 ^ 64 - 1 → told rule count ≡ Some (first_readings rule count)
told_below rule count lt = ap (λ (b : Bool). if b then Some (first_readings rule count) else None) (lt_test count (2 ^ 64 - 1) lt)

below_next : (count next : ℕ) → next < 2 ^ 64 - 1 → (2 ^ 64 - 1 ≤ count → 2 ^ 64 - 1 ≤ next) → count < 2 ^ 64 - 1
below_next count next lt stands = grind arith

module _ (rule : ℕ → ℕ) (count next : ℕ) (rises : count < 2 ^ 64 - 1 → next ≡ count + 1) (stands : 2 ^ 64 - 1 ≤ count → 2 ^ 64 - 1 ≤ next) where
  pub told_reading : (reading : ℕ) → reading ≡ rule count → (readings : List ℕ) → told rule next ≡ Some readings
      → (before : List ℕ) × (told rule count ≡ Some before) × (readings ≡ before ++ reading ∷ [])
  told_reading reading is readings given =
      let parts = told_some rule next readings given in
      let below : count < 2 ^ 64 - 1 = below_next count next parts.0 stands in
      let step = rises below in (
        first_readings rule count,
        told_below rule count below,
        parts.1 ∙ ap (first_readings rule) step ∙ map-range_with_len_more rule 0 count count (omega arith) ∙ ap (λ (x : ℕ). first_readings rule count ++ x ∷ []) (sym is),
      )

  pub told_on : (before : List ℕ) → told rule count ≡ Some before → length before ≤ 2 ^ 63 → IsSome (told rule next)
  told_on before given short =
      let parts = told_some rule count before given in
      let many : length before ≡ count = ap length parts.1 ∙ length-map-range_with_len rule 0 count in
      let step = rises parts.0 in
      ap is_some (told_below rule next (omega arith))
