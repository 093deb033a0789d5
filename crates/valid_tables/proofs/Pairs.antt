-- A pair that was seen, whichever of two rows is named first.
use Rattle.std.proofs.Common.{◌≡◌, ℕ, ◌==◌, ◌&&◌, ◌||◌, Bool, List, [], ◌∷◌, refl, ap, ◌∙◌, arith}
use Rattle.std.proofs.lemmas.Bool.Decides.{nat_tests}
use Rattle.std.specs.List.{list_any}
use Rattle.pair_list.specs.Places.{has_pair}
use Rattle.queue_rows.specs.Valid.{is_same_seen}
use Rattle.queue_rows.specs.declared.rows.SeenRow.{SeenRow}

turned : (a b : ℕ) → (a == b) ≡ (b == a)
turned a b = grind (arith, nat_tests)

any_alike : {T : Type 0} (p r : T → Bool) → ((y : T) → p y ≡ r y) → (xs : List T) → list_any p xs ≡ list_any r xs
any_alike p r same [] = refl
any_alike p r same (x ∷ xs) = ap (λ b. b || list_any p xs) (same x) ∙ ap (λ b. r x || b) (any_alike p r same xs)

-- a row of the pair is the same as the row
pub same_pair : (row : SeenRow) (rows : List SeenRow) → list_any (λ s. has_pair row.id row.slot (s.id, s.slot)) rows ≡ list_any (is_same_seen row) rows
same_pair row rows =
    any_alike (λ (s : SeenRow). has_pair row.id row.slot (s.id, s.slot)) (is_same_seen row)
    (λ s. ap (λ b. b && s.slot == row.slot) (turned s.id row.id) ∙ ap (λ b. row.id == s.id && b) (turned s.slot row.slot)) rows
