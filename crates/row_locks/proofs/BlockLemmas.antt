-- How the blocks of an index follow what is written.
use Rattle.std.proofs.Common.{◌≡◌, ℕ, ◌/◌, ◌%◌, ◌<◌, List, length, true, false, cond, inl, inr, Option, Some, None, slice_set, slice_index_or, nat_eq, refl, sym, ◌∙◌, ap, arith}
use Rattle.std.specs.Option.{option_map_or}
use Rattle.std.proofs.lemmas.Bool.{cases_eq, cases_Bool, eqb-true, eq-eqb, both_ways, false_from_ne_true}
use Rattle.std.proofs.lemmas.List.{get_or-set_same, get_or-set_other}
use Rattle.row_locks.specs.Entries.{is_same_slot}
use Rattle.row_locks.proofs.SlotLemmas.{same_key, key_is}

-- the same place of the same block
same_id : (id i : ℕ) → id / 16 ≡ i / 16 → id % 16 ≡ i % 16 → id ≡ i
same_id id i block place = omega arith

-- where a block is read at a place
module _ {A B : Type 0} (read : B → ℕ → Option A) where
  abbrev pub read_in : Option B → ℕ → Option A
  read_in block at = option_map_or (λ b. read b at) block None

  pub begun : (old new : ℕ × ℕ → Option B) (k q : ℕ × ℕ) (at : ℕ) (blank : B) → new q ≡ cond (is_same_slot k q) (Some blank) (old q) → old k ≡ None → read blank at ≡ None → read_in (new q) at ≡ read_in (old q) at
  begun old new k q at blank told absent none = elim (cases_Bool (is_same_slot k q)) [
    | inl same ↦
        let now : new q ≡ Some blank = told ∙ rw same refl in
        let before : old q ≡ None = ap old (sym (same_key k q same)) ∙ absent in
        ap (λ b. read_in b at) now ∙ none ∙ ap (λ b. read_in b at) (sym before)
    | inr other ↦ let now : new q ≡ old q = told ∙ rw other refl in ap (λ b. read_in b at) now
  ]

  pub ended : (old new : ℕ × ℕ → Option B) (k q : ℕ × ℕ) (at : ℕ) → new q ≡ cond (is_same_slot k q) None (old q) → ((n : ℕ) → read_in (old k) n ≡ None) → read_in (new q) at ≡ read_in (old q) at
  ended old new k q at told none = elim (cases_Bool (is_same_slot k q)) [
    | inl same ↦
        let now : new q ≡ None = told ∙ rw same refl in
        ap (λ b. read_in b at) now ∙ sym (none at) ∙ ap (λ r. read_in (old r) at) (same_key k q same)
    | inr other ↦ let now : new q ≡ old q = told ∙ rw other refl in ap (λ b. read_in b at) now
  ]

  pub written : (old new : ℕ × ℕ → Option B) (id slot i s : ℕ) (had has : B) (value : Option A) → old (id / 16, slot) ≡ Some had → new (i / 16, s) ≡ cond (is_same_slot (id / 16, slot) (i / 16, s)) (Some has) (old (i / 16, s))
      → ((n : ℕ) → read has n ≡ cond (nat_eq (id % 16) n) value (read had n))
      → read_in (new (i / 16, s)) (i % 16) ≡ cond (is_same_slot (id, slot) (i, s)) value (read_in (old (i / 16, s)) (i % 16))
  written old new id slot i s had has value is told set = elim (cases_Bool (is_same_slot (id / 16, slot) (i / 16, s))) [
    | inl same ↦
        let key = same_key (id / 16, slot) (i / 16, s) same in
        let now : new (i / 16, s) ≡ Some has = told ∙ rw same refl in
        let before : old (i / 16, s) ≡ Some had = ap old (sym key) ∙ is in
        let at : read_in (new (i / 16, s)) (i % 16) ≡ cond (nat_eq (id % 16) (i % 16)) value (read had (i % 16)) = ap (λ b. read_in b (i % 16)) now ∙ set (i % 16) in
        elim (cases_Bool (is_same_slot (id, slot) (i, s))) [
          | inl it ↦
              let place : nat_eq (id % 16) (i % 16) ≡ true = eq-eqb (id % 16) (i % 16) (ap (λ k. k.0 % 16) (same_key (id, slot) (i, s) it)) in
              at ∙ rw (place, it) refl
          | inr not_it ↦
              let place : nat_eq (id % 16) (i % 16) ≡ false = false_from_ne_true (nat_eq (id % 16) (i % 16)) (λ e.
              let id_is : id ≡ i = same_id id i (ap (λ k. k.0) key) (eqb-true (id % 16) (i % 16) e) in
              both_ways (is_same_slot (id, slot) (i, s)) not_it (key_is (id, slot) (i, s) (λ j. (id_is j, ap (λ k. k.1) key j)))) in
              at ∙ rw (place, not_it) (ap (λ b. read_in b (i % 16)) (sym before))
        ]
    | inr other ↦
        let now : new (i / 16, s) ≡ old (i / 16, s) = told ∙ rw other refl in
        elim (cases_Bool (is_same_slot (id, slot) (i, s))) [
          | inl it ↦
              let key = same_key (id, slot) (i, s) it in
              absurd (both_ways (is_same_slot (id / 16, slot) (i / 16, s)) other (key_is (id / 16, slot) (i / 16, s) (ap (λ k. (k.0 / 16, k.1)) key)))
          | inr not_it ↦ ap (λ b. read_in b (i % 16)) now ∙ rw not_it refl
        ]
  ]

-- a place of a list is written
pub place_set : {A : Type 0} (items : List A) (at n : ℕ) (item none : A) → at < length items → slice_index_or (slice_set items at item) n none ≡ cond (nat_eq at n) item (slice_index_or items n none)
place_set items at n item none inside = elim (cases_eq n at) [
  | inl here ↦ rw (here, eq-eqb at at refl) (get_or-set_same items at item none inside)
  | inr elsewhere ↦ rw (false_from_ne_true (nat_eq at n) (λ e. elsewhere (sym (eqb-true at n e)))) (get_or-set_other items at n item none elsewhere)
]
