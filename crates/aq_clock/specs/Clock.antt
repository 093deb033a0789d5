-- The readings that a clock gives.
use Rattle.std.specs.Prelude.{◌≡◌, ℕ, ◌+◌, ◌-◌, ◌^◌, ◌++◌, ◌∷◌, [], min, nat_lt, if◌then◌else◌, List, length, map, slice_index, Option, Some, None, IsSome}
use Rattle.std.specs.List.{range_with_len}
use Rattle.std.proofs.Common.{◌<◌, ◌≤◌, Bool, true, false, refl, sym, ◌∙◌, ap, arith}
use Rattle.std.proofs.lemmas.Grind.{common_steps}
use Rattle.std.proofs.lemmas.List.FromFn.{length-map-range_with_len}

-- these are the readings given before, and this one
abbrev pub HasReading : Option (List ℕ) → ℕ → List ℕ → Type 0
HasReading given reading readings = (before : List ℕ) × (given ≡ Some before) × (readings ≡ before ++ reading ∷ [])

-- behind these, where they are no more than 2^63, the readings are told
abbrev pub TellsOn : Option (List ℕ) → List ℕ → Type 0
TellsOn given before = length before ≤ 2 ^ 63 → IsSome given

-- the readings of a rule for the numbers below a count
abbrev pub first_readings : (ℕ → ℕ) → ℕ → List ℕ
first_readings rule count = map rule (range_with_len 0 count)

-- those readings, while the count is below its type's end
abbrev pub told : (ℕ → ℕ) → ℕ → Option (List ℕ)
told rule count = if nat_lt count (2 ^ 64 - 1) then Some (first_readings rule count) else None

-- the readings of a list, and past it each one above that before it
abbrev pub list_reading : List ℕ → ℕ → ℕ
list_reading list number =
    if nat_lt number (length list) then slice_index list number else min (slice_index list (length list - 1) + (number - length list + 1)) (2 ^ 64 - 1)

-- the readings that step by one, up to 2^62
abbrev pub step_reading : ℕ → ℕ → ℕ
step_reading start number = min (start + number + 1) (2 ^ 62)

pub untold : (readings : List ℕ) → None ≡ Some readings → ⊥
untold readings h = cc

if_some : {X : Type 0} (b : Bool) (x y : X) → (if b then Some x else None) ≡ Some y → (b ≡ true) × (y ≡ x)
if_some true x y h = (refl, cc)
if_some false x y h = absurd (cc)

lt_from_test : (a b : ℕ) → nat_lt a b ≡ true → a < b
lt_from_test a b h = grind (arith, common_steps)

-- what is told is the first readings of the rule
pub told_some : (rule : ℕ → ℕ) (count : ℕ) (readings : List ℕ) → told rule count ≡ Some readings → (count < 2 ^ 64 - 1) × (readings ≡ first_readings rule count)
told_some rule count readings given =
    let parts = if_some (nat_lt count (2 ^ 64 - 1)) (first_readings rule count) readings given in (lt_from_test count (2 ^ 64 - 1) parts.0, parts.1)

pub told_as_planned : (rule : ℕ → ℕ) (count : ℕ) (readings : List ℕ) (plan : ℕ → ℕ) → told rule count ≡ Some readings → Some rule ≡ Some plan → readings ≡ first_readings plan (length readings)
told_as_planned rule count readings plan given planned =
    let first = (told_some rule count readings given).1 in
    let many : length readings ≡ count = ap length first ∙ length-map-range_with_len rule 0 count in
    let same : rule ≡ plan = cc in
    first ∙ ap (λ (r : ℕ → ℕ). first_readings r count) same ∙ ap (first_readings plan) (sym many)
