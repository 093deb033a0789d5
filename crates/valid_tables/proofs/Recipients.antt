-- The slots of a message, looked at one by one.
use Rattle.std.proofs.Common.{◌≡◌, ℕ, ◌+◌, ◌<◌, ◌≤◌, List, [], ◌∷◌, ◌++◌, length, take, drop, true, false, Option, Some, None, refl, sym, ◌∙◌, ap, append_assoc, arith}
use Rattle.std.specs.Prelude.{slice_get, zero, suc}
use Rattle.std.specs.List.{list_any}
use Rattle.std.specs.Option.{option_map_or}
use Rattle.std.proofs.lemmas.List.{take-append-drop, take-take, take_all, take_more}
use Rattle.std.proofs.lemmas.Option.{get_or_from_slice_get, slice_get_within}
use Rattle.queue_rows.specs.Distinct.{are_distinct}
use Rattle.queue_rows.specs.Valid.{is_same_recipient}
use Rattle.queue_rows.specs.declared.rows.SlotRow.{SlotRow}
use Rattle.valid_tables.specs.Repeats.{is_repeated_at}
use Rattle.valid_tables.proofs.Meeting.{fresh, repeated}

one_more : (slots : List SlotRow) (at : ℕ) (s : SlotRow) → slice_get slots at ≡ Some s → take (at + 1) slots ≡ take at slots ++ s ∷ []
one_more slots at s is =
    take_more slots at s (slice_get_within slots at s is) ∙ ap (λ x. take at slots ++ x ∷ []) (get_or_from_slice_get slots at s s is)

-- behind the last slot there is none to be looked at
none_more : (slots : List SlotRow) (at : ℕ) → slice_get slots at ≡ None → length slots ≤ at
none_more [] at is = omega arith
none_more (s ∷ slots) zero is = cc
none_more (s ∷ slots) (suc at) is = let h = none_more slots at is in omega (arith, h)

more_at : (slots : List SlotRow) (at : ℕ) (found : Option SlotRow) → slice_get slots at ≡ found → option_map_or (λ slot. list_any (λ s. is_same_recipient s slot) (take at slots)) found false ≡ false
    → are_distinct is_same_recipient (take at slots) ≡ true → are_distinct is_same_recipient (take (at + 1) slots) ≡ true
more_at slots at None is new distinct =
    let past = none_more slots at is in
    ap (are_distinct is_same_recipient) (take_all (at + 1) slots (omega (arith, past)) ∙ sym (take_all at slots past)) ∙ distinct
more_at slots at (Some s) is new distinct =
    ap (are_distinct is_same_recipient) (one_more slots at s is) ∙ fresh is_same_recipient (take at slots) s distinct new

-- a slot whose recipient is that of none before it
pub distinct_more : (slots : List SlotRow) (at : ℕ) → is_repeated_at slots at ≡ false → are_distinct is_same_recipient (take at slots) ≡ true → are_distinct is_same_recipient (take (at + 1) slots) ≡ true
distinct_more slots at new distinct = more_at slots at (slice_get slots at) refl new distinct

split_at : (slots : List SlotRow) (at count : ℕ) (s : SlotRow) → at < count → slice_get slots at ≡ Some s → take count slots ≡ take at slots ++ s ∷ drop (at + 1) (take count slots)
split_at slots at count s within is =
    sym (take-append-drop (at + 1) (take count slots))
    ∙ ap (λ front. front ++ drop (at + 1) (take count slots)) (take-take (at + 1) count slots (omega arith) ∙ one_more slots at s is)
    ∙ append_assoc (take at slots) (s ∷ []) (drop (at + 1) (take count slots))

again_at : (slots : List SlotRow) (at count : ℕ) (found : Option SlotRow) → at < count → slice_get slots at ≡ found → option_map_or (λ slot. list_any (λ s. is_same_recipient s slot) (take at slots)) found false ≡ true
    → are_distinct is_same_recipient (take count slots) ≡ false
again_at slots at count None within is again = cc
again_at slots at count (Some s) within is again =
    ap (are_distinct is_same_recipient) (split_at slots at count s within is) ∙ repeated is_same_recipient (take at slots) s (drop (at + 1) (take count slots)) again

-- a slot whose recipient is that of one before it
pub distinct_again : (slots : List SlotRow) (at count : ℕ) → at < count → is_repeated_at slots at ≡ true → are_distinct is_same_recipient (take count slots) ≡ false
distinct_again slots at count within again = again_at slots at count (slice_get slots at) within refl again
