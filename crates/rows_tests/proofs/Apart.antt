-- Two messages that differ are distinct.
use Rattle.std.proofs.Common.{◌≡◌, ◌≤◌, ◌==◌, ℕ, suc, Bool, true, false, not, List, [], ◌∷◌, length, nat_le, refl, arith}
use Rattle.std.specs.Prelude.{◌||◌, ◌&&◌, slice_get}
use Rattle.std.proofs.lemmas.Bool.{and_parts}
use Rattle.std.proofs.lemmas.Bool.Decides.{nat_tests}
use Rattle.queue_rows.specs.Distinct.{are_distinct}
use Rattle.queue_rows.specs.Valid.{is_same_message}
use Rattle.queue_rows.specs.declared.rows.MsgRow.{MsgRow}
use Rattle.rows_tests.specs.Few.{differ, are_few}

two : (b : Bool) → not b ≡ true → (not (b || false) && (not false && true)) ≡ true
two true e = e
two false e = refl

no_more : (n : ℕ) → nat_le (suc (suc (suc n))) 2 ≡ true → ⊥
no_more n e = let three : suc (suc (suc n)) ≤ 2 = grind (arith, nat_tests) in omega arith

pub apart : (ms : List MsgRow) → are_few ms ≡ true → are_distinct is_same_message ms ≡ true
apart [] few = refl
apart (a ∷ []) few = refl
apart (a ∷ b ∷ []) few = two (a.id == b.id) (and_parts (nat_le (length (a ∷ b ∷ [])) 2) (differ (slice_get (a ∷ b ∷ []) 0) (slice_get (a ∷ b ∷ []) 1)) few).1
apart (a ∷ b ∷ c ∷ more) few = absurd (no_more (length more) (and_parts (nat_le (length (a ∷ b ∷ c ∷ more)) 2) (differ (slice_get (a ∷ b ∷ c ∷ more) 0) (slice_get (a ∷ b ∷ c ∷ more) 1)) few).0)
