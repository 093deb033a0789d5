-- The rows of messages name what may be due of them.
use Rattle.std.proofs.Common.{◌≡◌, ◌≤◌, ◌<◌, ◌+◌, ◌-◌, ◌^◌, ◌==◌, ℕ, zero, suc, Bool, true, false, List, [], ◌∷◌, nat_le, slice_get, Option, Some, None, refl, sym, ap, ◌∙◌, subst, arith, inl, inr, eq-eqb}
use Rattle.std.specs.Prelude.{◌&&◌, ◌||◌, not, min, flat_map, option_and_then, if◌then◌else◌}
use Rattle.std.specs.List.{list_any, range_with_len}
use Rattle.std.specs.Option.{option_map_or}
use Rattle.std.proofs.lemmas.Bool.{false≢true, or_cases, or_left, or_right, and_parts, and_from, eqb-true, ne_eqb, cases_eq}
use Rattle.std.proofs.lemmas.Bool.Decides.{nat_tests}
use Rattle.std.proofs.lemmas.List.Folds.{list_any-append}
use Rattle.std.proofs.lemmas.Option.{none-some}
use Rattle.due_index.specs.Due.{due_row}
use Rattle.due_index.specs.declared.row.DueRow.{DueRow}
use Rattle.queue_rows.specs.Rows.{find_message, has_slot, recipient_count, slot_of, slot_index}
use Rattle.queue_rows.specs.Settling.{is_open, is_ready, is_handled, retention_of}
use Rattle.queue_rows.specs.Due.{is_taken, last_taken, slot_numbers}
use Rattle.queue_rows.specs.declared.tables.Tables.{Tables}
use Rattle.queue_rows.specs.declared.rows.MsgRow.{MsgRow}
use Rattle.queue_rows.specs.declared.rows.SlotRow.{SlotRow}
use Rattle.due_slots.specs.Indexed.{is_row, has}
use Rattle.due_slots.specs.Laws.{RowsNameDue}
use Rattle.due_slots.specs.Named.{is_slot_due, is_purge_due, has_row}
use Rattle.due_slots.specs.Rows.{sooner, slot_moment, row_at, slot_row, purge_row, purge_moment, rows_of}
use Rattle.due_slots.proofs.Telling.{same_row, own_row}

-- ---- numbers of slots

in_range : (k a x : ℕ) → a ≤ x → x < a + k → list_any (λ n. n == x) (range_with_len a k) ≡ true
in_range zero a x least below = absurd (omega arith)
in_range (suc k) a x least below = elim (cases_eq a x) [
  | inl same ↦ or_left (a == x) (list_any (λ n. n == x) (range_with_len (a + 1) k)) (eq-eqb a x same)
  | inr other ↦ or_right (a == x) (list_any (λ n. n == x) (range_with_len (a + 1) k)) (in_range k (a + 1) x (omega arith) (omega arith))
]

among : (m : MsgRow) (slot : ℕ) → has_slot m slot ≡ true → list_any (λ n. n == slot) (slot_numbers m) ≡ true
among m zero there =
    list_any-append (λ n. n == 0) (range_with_len 1 (recipient_count m)) (if m.moved then 0 ∷ [] else [])
    ∙ or_right (list_any (λ n. n == 0) (range_with_len 1 (recipient_count m))) (list_any (λ n. n == 0) (if m.moved then 0 ∷ [] else []))
    (ap (λ b. list_any (λ n. n == 0) (if b then 0 ∷ [] else [])) there)
among m (suc n) there =
    let other : (suc n == 0) ≡ false = ne_eqb (suc n) 0 (λ same. omega arith) in
    let least : nat_le (suc n) (recipient_count m) ≡ true = ap (λ b. if b then m.moved else nat_le (suc n) (recipient_count m)) (sym other) ∙ there in
    let within : suc n ≤ recipient_count m = grind (arith, nat_tests) in
    list_any-append (λ k. k == suc n) (range_with_len 1 (recipient_count m)) (if m.moved then 0 ∷ [] else [])
    ∙ or_left (list_any (λ k. k == suc n) (range_with_len 1 (recipient_count m))) (list_any (λ k. k == suc n) (if m.moved then 0 ∷ [] else []))
    (in_range (recipient_count m) 1 (suc n) (omega arith) (omega arith))

there_by : (m : MsgRow) (slot : ℕ) (s : SlotRow) (b : Bool) (o : Option SlotRow) → (if b then o else None) ≡ Some s → b ≡ true
there_by m slot s true o e = refl
there_by m slot s false o e = absurd (none-some s e)

-- ---- rows

slots_of : (m : MsgRow) (row : DueRow) (slot : ℕ) (ns : List ℕ) → list_any (λ n. n == slot) ns ≡ true → has (slot_row m slot) row ≡ true → has (flat_map (slot_row m) ns) row ≡ true
slots_of m row slot [] some own = absurd (false≢true some)
slots_of m row slot (n ∷ ns) some own =
    list_any-append (is_row row) (slot_row m n) (flat_map (slot_row m) ns)
    ∙ elim (or_cases (n == slot) (list_any (λ k. k == slot) ns) some) [
      | inl here ↦ or_left (has (slot_row m n) row) (has (flat_map (slot_row m) ns) row) (ap (λ k. has (slot_row m k) row) (eqb-true n slot here) ∙ own)
      | inr later ↦ or_right (has (slot_row m n) row) (has (flat_map (slot_row m) ns) row) (slots_of m row slot ns later own)
    ]

own_one : (row : DueRow) → has (row ∷ []) row ≡ true
own_one row = or_left (is_row row row) false (own_row row)

any_weaker : (p q : DueRow → Bool) (xs : List DueRow) → ((x : DueRow) → p x ≡ true → q x ≡ true) → list_any p xs ≡ true → list_any q xs ≡ true
any_weaker p q [] weaker some = some
any_weaker p q (x ∷ xs) weaker some = elim (or_cases (p x) (list_any p xs) some) [
  | inl here ↦ or_left (q x) (list_any q xs) (weaker x here)
  | inr later ↦ or_right (q x) (list_any q xs) (any_weaker p q xs weaker later)
]

row_named : (rows : List DueRow) (id slot k moment : ℕ) → nat_le k moment ≡ true → has rows (due_row k id slot) ≡ true → has_row rows id slot moment ≡ true
row_named rows id slot k moment early some =
    any_weaker (is_row (due_row k id slot)) (λ row. (row.id == id) && (row.slot == slot) && nat_le row.moment moment) rows
    (λ row is.
    let same : row ≡ due_row k id slot = same_row row (due_row k id slot) is in
    subst (λ (r : DueRow). ((r.id == id) && (r.slot == slot) && nat_le r.moment moment) ≡ true) (sym same)
    (and_from ((id == id) && (slot == slot)) (nat_le k moment) (and_from (id == id) (slot == slot) (eq-eqb id id refl) (eq-eqb slot slot refl)) early)) some

-- ---- moments

-- the row's moment, which is at that moment or before
record Early (own : Option ℕ) (moment : ℕ) : Type 0 where
  at : ℕ
  is : own ≡ Some at
  early : nat_le at moment ≡ true

sooner_early : (at e moment : ℕ) → (nat_le e moment || nat_le at moment) ≡ true → nat_le (min at e) moment ≡ true
sooner_early at e moment some = elim (or_cases (nat_le e moment) (nat_le at moment) some) [
  | inl over ↦ grind (arith, nat_tests)
  | inr ready ↦ grind (arith, nat_tests)
]

slot_early_by : (open_now ready : Bool) (at moment : ℕ) (expires : Option ℕ)
    → (open_now && (option_map_or (λ e. nat_le e moment) expires false || (not ready && nat_le at moment))) ≡ true
    → Early (if open_now then (if ready then expires else Some (sooner at expires)) else None) moment
slot_early_by false ready at moment expires due = absurd (false≢true due)
slot_early_by true true at moment None due = absurd (false≢true due)
slot_early_by true true at moment (Some e) due = record { at = e; is = refl; early = elim (or_cases (nat_le e moment) false due) [ inl over ↦ over | inr never ↦ absurd (false≢true never) ] }
slot_early_by true false at moment None due = record { at = at; is = refl; early = due }
slot_early_by true false at moment (Some e) due = record { at = min at e; is = refl; early = sooner_early at e moment due }

slot_early : (s : SlotRow) (moment : ℕ) → is_slot_due s moment ≡ true → Early (slot_moment s) moment
slot_early s moment due = slot_early_by (is_open s.state) (is_ready s.state) s.at moment s.expires due

purge_early : (taken : Bool) (last keep retention most moment : ℕ) → keep ≤ retention → (not taken || nat_le (last + retention) moment) ≡ true
    → nat_le (if taken then min (last + keep) most else 0) moment ≡ true
purge_early true last keep retention most moment less due = grind (arith, nat_tests)
purge_early false last keep retention most moment less due = grind (arith, nat_tests)

-- ---- what is due

module _ (t : Tables) (keeps : List ℕ → ℕ) (rows : List DueRow)
    (less : (m : MsgRow) → find_message t m.id ≡ Some m → keeps m.queue ≤ retention_of t m)
    (all : (m : MsgRow) (row : DueRow) → find_message t m.id ≡ Some m → has (rows_of (keeps m.queue) m) row ≡ true → has rows row ≡ true) where
  slot_named : (m : MsgRow) (slot : ℕ) (s : SlotRow) (moment : ℕ) → find_message t m.id ≡ Some m → slot_of m slot ≡ Some s
      → is_slot_due s moment ≡ true → has_row rows m.id slot moment ≡ true
  slot_named m slot s moment known at due =
      let own = slot_early s moment due in
      let row = due_row own.at m.id slot in
      let is : slot_row m slot ≡ row ∷ [] = ap (row_at m.id slot) (ap (option_and_then slot_moment) at ∙ own.is) in
      let there : has_slot m slot ≡ true = there_by m slot s (has_slot m slot) (slice_get m.slots (slot_index m slot)) at in
      let among_slots = slots_of m row slot (slot_numbers m) (among m slot there) (ap (λ xs. has xs row) is ∙ own_one row) in
      let among_rows : has (rows_of (keeps m.queue) m) row ≡ true =
      list_any-append (is_row row) (flat_map (slot_row m) (slot_numbers m)) (purge_row (keeps m.queue) m)
      ∙ or_left (has (flat_map (slot_row m) (slot_numbers m)) row) (has (purge_row (keeps m.queue) m) row) among_slots in
      row_named rows m.id slot own.at moment own.early (all m row known among_rows)

  purge_named : (m : MsgRow) (moment : ℕ) → find_message t m.id ≡ Some m → is_purge_due t m moment ≡ true → has_row rows m.id 0 moment ≡ true
  purge_named m moment known due =
      let both = and_parts (is_handled m) (not (is_taken m) || nat_le (last_taken m + retention_of t m) moment) due in
      let keep = keeps m.queue in
      let row = due_row (purge_moment keep m) m.id 0 in
      let early = purge_early (is_taken m) (last_taken m) keep (retention_of t m) (2 ^ 64 - 1) moment (less m known) both.1 in
      let is : purge_row keep m ≡ row ∷ [] = ap (λ b. if b then row ∷ [] else []) both.0 in
      let among_rows : has (rows_of keep m) row ≡ true =
      list_any-append (is_row row) (flat_map (slot_row m) (slot_numbers m)) (purge_row keep m)
      ∙ or_right (has (flat_map (slot_row m) (slot_numbers m)) row) (has (purge_row keep m) row) (ap (λ xs. has xs row) is ∙ own_one row) in
      row_named rows m.id 0 (purge_moment keep m) moment early (all m row known among_rows)

pub names_due : RowsNameDue
names_due t keeps rows less all = record {
  slots = λ m slot s moment known at due. slot_named t keeps rows less all m slot s moment known at due;
  purges = λ m moment bound known due. purge_named t keeps rows less all m moment known due;
}
