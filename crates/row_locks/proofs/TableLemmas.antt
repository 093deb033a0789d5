-- What the index of slots tells of the tables, and how it follows a change of one place.
use Rattle.std.proofs.Common.{◌≡◌, ◌≢◌, ℕ, ◌<◌, ◌≤◌, List, [], ◌∷◌, ◌++◌, length, length-append, map, true, false, cond, ◌&&◌, ◌||◌, ◌==◌, inl, inr, Option, Some, None, slice_set, slice_index_or, refl, sym, ◌∙◌, ap, subst, arith}
use Rattle.std.specs.Option.{option_map_or, option_map}
use Rattle.std.proofs.lemmas.Bool.{cases_eq, cases_lt, cases_Bool, and_parts, eqb-true, eq-eqb, both_ways}
use Rattle.std.proofs.lemmas.List.{get_or-set_same, get_or-set_other, get_or_past, get_or_append_left}
use Rattle.std.proofs.Math.Seq.{get_or-append_seam}
use Rattle.std.proofs.Math.ListN.{get_or-map}
use Rattle.slot_marks.specs.Marks.{no_marks, marks_of, spare_of, is_on, has_slot, has_removed, kept_beside, HasSlot, IsFreeSlot}
use Rattle.row_locks.specs.Entries.{SessionEntries, no_entries, shown, present, entry_at, mark_at, is_same_slot, with_mark, with_entry}
use Rattle.row_locks.specs.Slots.{IsSlotIndex}
use Rattle.slot_marks.specs.declared.mark.Mark.{Mark}
use Rattle.row_locks.specs.declared.slots.Hold.{Hold}
use Rattle.row_locks.proofs.EntryLemmas.{any_at, place_of, IsOnly, only_one}
use Rattle.row_locks.proofs.IndexLemmas.{within, kept_id, kept_slot, on_it, its_slot}
use Rattle.row_locks.proofs.SlotLemmas.{same_key, key_is}

pub shown_at : (tables : List SessionEntries) (s : ℕ) → slice_index_or (map shown tables) s no_marks ≡ shown (slice_index_or tables s no_entries)
shown_at tables s = get_or-map shown tables s no_entries

pub marks_at : (tables : List SessionEntries) (s : ℕ) → marks_of (map shown tables) s ≡ present (slice_index_or tables s no_entries).entries
marks_at tables s = ap (λ m. m.marks) (shown_at tables s)

pub spare_there : (tables : List SessionEntries) (s : ℕ) → spare_of (map shown tables) s ≡ (slice_index_or tables s no_entries).spare
spare_there tables s = ap (λ m. m.spare) (shown_at tables s)

same_hold : (a b : Hold) → Some a ≡ Some b → a ≡ b
same_hold a b e = cc e

-- a mark on a slot is what the index has there
pub found_on : (tables : List SessionEntries) (hold : ℕ → ℕ → Option Hold) (id slot s at : ℕ) (x : Mark) → IsSlotIndex tables hold → mark_at tables s at ≡ Some x → is_on id slot x ≡ true
    → hold id slot ≡ Some (record { session = s; at = at; removed = x.removed })
found_on tables hold id slot s at x index is on =
    let its = its_slot x id slot on in (λ i. hold (sym its.0 i) (sym its.1 i)) ∙ index.found s at x is

-- no entry of another session is on a slot that is held
none_on : (tables : List SessionEntries) (hold : ℕ → ℕ → Option Hold) (id slot s : ℕ) → IsSlotIndex tables hold → option_map_or (λ it. it.session == s) (hold id slot) false ≡ false
    → (k : ℕ) (x : Mark) → mark_at tables s k ≡ Some x → is_on id slot x ≡ false
none_on tables hold id slot s index other k x is = elim (cases_Bool (is_on id slot x)) [
  | inl on ↦
      let there = found_on tables hold id slot s k x index is on in
      let own : option_map_or (λ it. it.session == s) (hold id slot) false ≡ true = ap (λ o. option_map_or (λ it. it.session == s) o false) there ∙ eq-eqb s s refl in
      absurd (both_ways (option_map_or (λ it. it.session == s) (hold id slot) false) other own)
  | inr off ↦ off
]

-- the one entry that is on a slot that is held
pub only_there : (tables : List SessionEntries) (hold : ℕ → ℕ → Option Hold) (id slot : ℕ) (it : Hold) → IsSlotIndex tables hold → hold id slot ≡ Some it
    → (m : Mark) × IsOnly (is_on id slot) (slice_index_or tables it.session no_entries).entries it.at m × (it.removed ≡ m.removed)
only_there tables hold id slot it index is =
    let r = index.real id slot it is in
    let own = found_on tables hold id slot it.session it.at r.0 index r.1 r.2 in
    let told : it ≡ record { session = it.session; at = it.at; removed = r.0.removed } = same_hold it _ (sym is ∙ own) in (
      r.0,
      record {
        here = r.1;
        passes = r.2;
        others = λ k x ne there. elim (cases_Bool (is_on id slot x)) [
          | inl on ↦
              let at_k = found_on tables hold id slot it.session k x index there on in
              let same : it ≡ record { session = it.session; at = k; removed = x.removed } = same_hold it _ (sym is ∙ at_k) in
              absurd (ne (sym (ap (λ h. h.at) same)))
          | inr off ↦ off
        ];
      },
      ap (λ h. h.removed) told,
    )

-- what the index tells of who has a slot
pub own_slot : (tables : List SessionEntries) (hold : ℕ → ℕ → Option Hold) (id slot s : ℕ) → IsSlotIndex tables hold
    → option_map_or (λ it. it.session == s) (hold id slot) false ≡ has_slot id slot (marks_of (map shown tables) s)
own_slot tables hold id slot s index = by (hold id slot) refl ∙ ap (has_slot id slot) (sym (marks_at tables s))
  where
    by : (o : Option Hold) → hold id slot ≡ o → option_map_or (λ it. it.session == s) (hold id slot) false ≡ has_slot id slot (present (slice_index_or tables s no_entries).entries)
    by o is = elim (cases_Bool (has_slot id slot (present (slice_index_or tables s no_entries).entries))) [
      | inl some ↦
          let p = place_of (is_on id slot) (slice_index_or tables s no_entries).entries some in
          let there = found_on tables hold id slot s p.0 p.1 index p.2 p.3 in
          ap (λ h. option_map_or (λ it. it.session == s) h false) there ∙ eq-eqb s s refl ∙ sym some
      | inr none ↦ elim (cases_Bool (option_map_or (λ it. it.session == s) (hold id slot) false)) [
        | inl own ↦ absurd (both_ways (has_slot id slot (present (slice_index_or tables s no_entries).entries)) none (held o is own))
        | inr other ↦ other ∙ sym none
      ]
    ]
      where
        held : (o : Option Hold) → hold id slot ≡ o → option_map_or (λ it. it.session == s) (hold id slot) false ≡ true → has_slot id slot (present (slice_index_or tables s no_entries).entries) ≡ true
        held None is own = absurd (both_ways false refl (ap (λ h. option_map_or (λ it. it.session == s) h false) (sym is) ∙ own))
        held (Some it) is own =
            let r = index.real id slot it is in
            let same : it.session ≡ s = eqb-true it.session s (ap (λ h. option_map_or (λ it. it.session == s) h false) (sym is) ∙ own) in
            let P : ℕ → Type 0 = λ n. mark_at tables n it.at ≡ Some r.0 in
            any_at (is_on id slot) (slice_index_or tables s no_entries).entries it.at r.0 (subst P same r.1) r.2

pub slot_free : (tables : List SessionEntries) (hold : ℕ → ℕ → Option Hold) (id slot : ℕ) → IsSlotIndex tables hold → hold id slot ≡ None → IsFreeSlot (map shown tables) id slot
slot_free tables hold id slot index none = λ s. sym (own_slot tables hold id slot s index) ∙ ap (λ h. option_map_or (λ it. it.session == s) h false) none

pub slot_held : (tables : List SessionEntries) (hold : ℕ → ℕ → Option Hold) (id slot : ℕ) (it : Hold) → IsSlotIndex tables hold → hold id slot ≡ Some it
    → HasSlot (map shown tables) id slot it.session
slot_held tables hold id slot it index is =
    sym (own_slot tables hold id slot it.session index) ∙ ap (λ h. option_map_or (λ i. i.session == it.session) h false) is ∙ eq-eqb it.session it.session refl

-- the slot is free where no session has it
pub none_held : (tables : List SessionEntries) (hold : ℕ → ℕ → Option Hold) (id slot : ℕ) → IsSlotIndex tables hold → IsFreeSlot (map shown tables) id slot → hold id slot ≡ None
none_held tables hold id slot index free = by (hold id slot) refl
  where
    by : (o : Option Hold) → hold id slot ≡ o → hold id slot ≡ None
    by None is = is
    by (Some it) is = absurd (both_ways (has_slot id slot (marks_of (map shown tables) it.session)) (free it.session) (slot_held tables hold id slot it index is))

pub own_removed : (tables : List SessionEntries) (hold : ℕ → ℕ → Option Hold) (id slot s : ℕ) → IsSlotIndex tables hold
    → option_map_or (λ it. (it.session == s) && it.removed) (hold id slot) false ≡ has_removed id slot (marks_of (map shown tables) s)
own_removed tables hold id slot s index = by (hold id slot) refl ∙ ap (has_removed id slot) (sym (marks_at tables s))
  where
    off : option_map_or (λ it. it.session == s) (hold id slot) false ≡ false → has_removed id slot (present (slice_index_or tables s no_entries).entries) ≡ false
    off other = elim (cases_Bool (has_removed id slot (present (slice_index_or tables s no_entries).entries))) [
      | inl some ↦
          let p = place_of (λ m. is_on id slot m && m.removed) (slice_index_or tables s no_entries).entries some in
          let on = and_parts (is_on id slot p.1) p.1.removed p.3 in
          absurd (both_ways (is_on id slot p.1) (none_on tables hold id slot s index other p.0 p.1 p.2) on.0)
      | inr never ↦ never
    ]

    by : (o : Option Hold) → hold id slot ≡ o → option_map_or (λ it. (it.session == s) && it.removed) (hold id slot) false ≡ has_removed id slot (present (slice_index_or tables s no_entries).entries)
    by None is =
        ap (λ h. option_map_or (λ it. (it.session == s) && it.removed) h false) is
        ∙ sym (off (ap (λ h. option_map_or (λ it. it.session == s) h false) is))
    by (Some it) is = elim (cases_eq it.session s) [
      | inl same ↦
          let only = only_there tables hold id slot it index is in
          let P : ℕ → Type 0 = λ n. has_removed id slot (present (slice_index_or tables n no_entries).entries) ≡ it.removed in
          let told : has_removed id slot (present (slice_index_or tables s no_entries).entries) ≡ it.removed =
          subst P same (only_one (is_on id slot) (λ m. m.removed) (slice_index_or tables it.session no_entries).entries it.at only.0 only.1 ∙ sym only.2) in
          let own : (it.session == s) ≡ true = eq-eqb it.session s same in
          ap (λ h. option_map_or (λ it. (it.session == s) && it.removed) h false) is ∙ ap (λ b. b && it.removed) own ∙ sym told
      | inr ne ↦
          let other : (it.session == s) ≡ false = elim (cases_Bool (it.session == s)) [ inl e ↦ absurd (ne (eqb-true it.session s e)) | inr e ↦ e ] in
          ap (λ h. option_map_or (λ it. (it.session == s) && it.removed) h false) is
          ∙ ap (λ b. b && it.removed) other
          ∙ sym (off (ap (λ h. option_map_or (λ it. it.session == s) h false) is ∙ other))
    ]

-- what stands beside an item that was put last
pub beside_last : {X : Type 0} (xs : List (Option X)) (x : Option X) (k : ℕ) → k ≢ length xs → slice_index_or (xs ++ x ∷ []) k None ≡ slice_index_or xs k None
beside_last xs x k ne = elim (cases_lt k (length xs)) [
  | inl below ↦ get_or_append_left xs (x ∷ []) None k below
  | inr past ↦
      let far : length (xs ++ x ∷ []) ≤ k = omega (arith, length-append xs (x ∷ [])) in
      get_or_past (xs ++ x ∷ []) k None far ∙ sym (get_or_past xs k None past)
]

-- the tables differ in what stands at one place
pub record Changes (old new : List SessionEntries) (s at : ℕ) (e : Option Mark) : Type 0 where
  pub here : mark_at new s at ≡ e
  pub beside : (k : ℕ) → k ≢ at → mark_at new s k ≡ mark_at old s k
  pub others : (t k : ℕ) → t ≢ s → mark_at new t k ≡ mark_at old t k

pub pushed_at : (tables : List SessionEntries) (s : ℕ) (m : Mark) (rank : Option ℕ) → s < length tables
    → Changes tables (slice_set tables s (with_mark (slice_index_or tables s no_entries) m rank)) s (length (slice_index_or tables s no_entries).entries) (Some m)
pushed_at tables s m rank there =
    let es = (slice_index_or tables s no_entries).entries in
    let put : SessionEntries = with_mark (slice_index_or tables s no_entries) m rank in
    let own : (slice_index_or (slice_set tables s put) s no_entries).entries ≡ es ++ Some m ∷ [] = ap (λ t. t.entries) (get_or-set_same tables s put no_entries there) in
    record {
      here = ap (λ xs. entry_at xs (length es)) own ∙ get_or-append_seam es (Some m) [] None;
      beside = λ k ne. ap (λ xs. entry_at xs k) own ∙ beside_last es (Some m) k ne;
      others = λ t k ne. ap (λ x. entry_at x.entries k) (get_or-set_other tables s t put no_entries ne);
    }

pub set_at : (tables : List SessionEntries) (s at : ℕ) (e : Option Mark) → s < length tables → at < length (slice_index_or tables s no_entries).entries
    → Changes tables (slice_set tables s (with_entry (slice_index_or tables s no_entries) at e)) s at e
set_at tables s at e there inside =
    let es = (slice_index_or tables s no_entries).entries in
    let put : SessionEntries = with_entry (slice_index_or tables s no_entries) at e in
    let own : (slice_index_or (slice_set tables s put) s no_entries).entries ≡ slice_set es at e = ap (λ t. t.entries) (get_or-set_same tables s put no_entries there) in
    record {
      here = ap (λ xs. entry_at xs at) own ∙ get_or-set_same es at e None inside;
      beside = λ k ne. ap (λ xs. entry_at xs k) own ∙ get_or-set_other es at k e None ne;
      others = λ t k ne. ap (λ x. entry_at x.entries k) (get_or-set_other tables s t put no_entries ne);
    }

-- a mark is written where there was none, or one on its slot, and no other place has one on its slot
pub index_written : (old new : List SessionEntries) (hold now : ℕ → ℕ → Option Hold) (s at : ℕ) (m : Mark) → IsSlotIndex old hold → Changes old new s at (Some m)
    → ((x : Mark) → mark_at old s at ≡ Some x → is_on m.id m.slot x ≡ true)
    → ((it : Hold) → hold m.id m.slot ≡ Some it → (it.session ≡ s) × (it.at ≡ at))
    → ((id slot : ℕ) → now id slot ≡ cond (is_same_slot (m.id, m.slot) (id, slot)) (Some (record { session = s; at = at; removed = m.removed })) (hold id slot)) → IsSlotIndex new now
index_written old new hold now s at m index change before only told = record {
  found = λ t k x is. elim (cases_eq t s) [
    | inl et ↦
        let own : mark_at new s k ≡ Some x = let P : ℕ → Type 0 = λ n. mark_at new n k ≡ Some x in subst P et is in
        elim (cases_eq k at) [
          | inl ek ↦
              let at_it : mark_at new s at ≡ Some x = let P : ℕ → Type 0 = λ n. mark_at new s n ≡ Some x in subst P ek own in
              let same : m ≡ x = let e : Some m ≡ Some x = sym change.here ∙ at_it in cc e in
              let Q : Mark → Type 0 = λ y. now y.id y.slot ≡ Some (record { session = s; at = at; removed = y.removed }) in
              let here : now m.id m.slot ≡ Some (record { session = s; at = at; removed = m.removed }) = told m.id m.slot ∙ rw (key_is (m.id, m.slot) (m.id, m.slot) refl) refl in
              subst Q same here ∙ (λ i. Some (record { session = sym et i; at = sym ek i; removed = x.removed }))
          | inr nk ↦ elsewhere t k x (sym (rest_here t k et nk) ∙ is) (λ e. nk e.1)
        ]
    | inr nt ↦ elsewhere t k x (sym (change.others t k nt) ∙ is) (λ e. nt e.0)
  ];
  real = λ id slot it is. elim (cases_Bool (is_same_slot (m.id, m.slot) (id, slot))) [
    | inl same ↦
        let key = same_key (m.id, m.slot) (id, slot) same in
        let now_is : Some (record { session = s; at = at; removed = m.removed }) ≡ Some it = sym (told id slot ∙ rw same refl) ∙ is in
        let hold_is : record { session = s; at = at; removed = m.removed } ≡ it = same_hold _ it now_is in
        let P : Hold → Type 0 = λ h. mark_at new h.session h.at ≡ Some m in
        (m, subst P hold_is change.here, on_it m id slot (ap (λ q. q.0) key) (ap (λ q. q.1) key))
    | inr other ↦
        let was : hold id slot ≡ Some it = sym (told id slot ∙ rw other refl) ∙ is in
        let r = index.real id slot it was in
        let off : (it.session ≡ s) × (it.at ≡ at) → ⊥ = λ e.
        let there : mark_at old s at ≡ Some r.0 = let P : ℕ → ℕ → Type 0 = λ a b. mark_at old a b ≡ Some r.0 in subst (λ b. P s b) e.1 (subst (λ a. P a it.at) e.0 r.1) in
        let mine = its_slot r.0 m.id m.slot (before r.0 there) in
        let its = its_slot r.0 id slot r.2 in
        both_ways (is_same_slot (m.id, m.slot) (id, slot)) other (key_is (m.id, m.slot) (id, slot) (λ i. ((sym mine.0 ∙ its.0) i, (sym mine.1 ∙ its.1) i))) in
        (r.0, stays it.session it.at off ∙ r.1, r.2)
  ];
}
  where
    rest_here : (t k : ℕ) → t ≡ s → k ≢ at → mark_at new t k ≡ mark_at old t k
    rest_here t k et nk = let P : ℕ → Type 0 = λ n. mark_at new n k ≡ mark_at old n k in subst P (sym et) (change.beside k nk)

    stays : (t k : ℕ) → ((t ≡ s) × (k ≡ at) → ⊥) → mark_at new t k ≡ mark_at old t k
    stays t k off = elim (cases_eq t s) [
      | inl et ↦ elim (cases_eq k at) [ inl ek ↦ absurd (off (et, ek)) | inr nk ↦ rest_here t k et nk ]
      | inr nt ↦ change.others t k nt
    ]

    elsewhere : (t k : ℕ) (x : Mark) → mark_at old t k ≡ Some x → ((t ≡ s) × (k ≡ at) → ⊥) → now x.id x.slot ≡ Some (record { session = t; at = k; removed = x.removed })
    elsewhere t k x was off = elim (cases_Bool (is_same_slot (m.id, m.slot) (x.id, x.slot))) [
      | inl same ↦
          let key = same_key (m.id, m.slot) (x.id, x.slot) same in
          let there = found_on old hold m.id m.slot t k x index was (on_it x m.id m.slot (sym (ap (λ q. q.0) key)) (sym (ap (λ q. q.1) key))) in
          absurd (off (only (record { session = t; at = k; removed = x.removed }) there))
      | inr other ↦ told x.id x.slot ∙ rw other (index.found t k x was)
    ]

-- the mark that is held is taken out
pub index_taken : (old new : List SessionEntries) (hold now : ℕ → ℕ → Option Hold) (id slot : ℕ) (it : Hold) → IsSlotIndex old hold → hold id slot ≡ Some it → Changes old new it.session it.at None
    → ((i n : ℕ) → now i n ≡ cond (is_same_slot (id, slot) (i, n)) None (hold i n)) → IsSlotIndex new now
index_taken old new hold now id slot it index held change told = record {
  found = λ t k x is. elim (cases_eq t it.session) [
    | inl et ↦ elim (cases_eq k it.at) [
      | inl ek ↦
          let at_it : mark_at new it.session it.at ≡ Some x = let P : ℕ → ℕ → Type 0 = λ a b. mark_at new a b ≡ Some x in subst (λ b. P it.session b) ek (subst (λ a. P a k) et is) in
          absurd (let e : None ≡ Some x = sym change.here ∙ at_it in cc e)
      | inr nk ↦ elsewhere t k x (sym (rest_here t k et nk) ∙ is) (λ e. nk e.1)
    ]
    | inr nt ↦ elsewhere t k x (sym (change.others t k nt) ∙ is) (λ e. nt e.0)
  ];
  real = λ i n h is. elim (cases_Bool (is_same_slot (id, slot) (i, n))) [
    | inl same ↦ absurd (let e : None ≡ Some h = sym (told i n ∙ rw same refl) ∙ is in cc e)
    | inr other ↦
        let was : hold i n ≡ Some h = sym (told i n ∙ rw other refl) ∙ is in
        let r = index.real i n h was in
        let first = index.real id slot it held in
        let off : (h.session ≡ it.session) × (h.at ≡ it.at) → ⊥ = λ e.
        let there : mark_at old it.session it.at ≡ Some r.0 = let P : ℕ → ℕ → Type 0 = λ a b. mark_at old a b ≡ Some r.0 in subst (λ b. P it.session b) e.1 (subst (λ a. P a h.at) e.0 r.1) in
        let one : first.0 ≡ r.0 = let e : Some first.0 ≡ Some r.0 = sym first.1 ∙ there in cc e in
        let P : Mark → Type 0 = λ x. is_on id slot x ≡ true in
        let mine = its_slot r.0 id slot (subst P one first.2) in
        let its = its_slot r.0 i n r.2 in
        both_ways (is_same_slot (id, slot) (i, n)) other (key_is (id, slot) (i, n) (λ j. ((sym mine.0 ∙ its.0) j, (sym mine.1 ∙ its.1) j))) in
        (r.0, stays h.session h.at off ∙ r.1, r.2)
  ];
}
  where
    rest_here : (t k : ℕ) → t ≡ it.session → k ≢ it.at → mark_at new t k ≡ mark_at old t k
    rest_here t k et nk = let P : ℕ → Type 0 = λ n. mark_at new n k ≡ mark_at old n k in subst P (sym et) (change.beside k nk)

    stays : (t k : ℕ) → ((t ≡ it.session) × (k ≡ it.at) → ⊥) → mark_at new t k ≡ mark_at old t k
    stays t k off = elim (cases_eq t it.session) [
      | inl et ↦ elim (cases_eq k it.at) [ inl ek ↦ absurd (off (et, ek)) | inr nk ↦ rest_here t k et nk ]
      | inr nt ↦ change.others t k nt
    ]

    elsewhere : (t k : ℕ) (x : Mark) → mark_at old t k ≡ Some x → ((t ≡ it.session) × (k ≡ it.at) → ⊥) → now x.id x.slot ≡ Some (record { session = t; at = k; removed = x.removed })
    elsewhere t k x was off = elim (cases_Bool (is_same_slot (id, slot) (x.id, x.slot))) [
      | inl same ↦
          let key = same_key (id, slot) (x.id, x.slot) same in
          let there = found_on old hold id slot t k x index was (on_it x id slot (sym (ap (λ q. q.0) key)) (sym (ap (λ q. q.1) key))) in
          let one : it ≡ record { session = t; at = k; removed = x.removed } = same_hold it _ (sym held ∙ there) in
          absurd (off (sym (ap (λ h. h.session) one), sym (ap (λ h. h.at) one)))
      | inr other ↦ told x.id x.slot ∙ rw other (index.found t k x was)
    ]

-- the marks of a session are all taken out
pub index_emptied : (old new : List SessionEntries) (hold now : ℕ → ℕ → Option Hold) (s : ℕ) → IsSlotIndex old hold
    → ((k : ℕ) → mark_at new s k ≡ None) → ((t k : ℕ) → t ≢ s → mark_at new t k ≡ mark_at old t k)
    → ((i n : ℕ) → now i n ≡ cond (has_slot i n (present (slice_index_or old s no_entries).entries)) None (hold i n)) → IsSlotIndex new now
index_emptied old new hold now s index none others told = record {
  found = λ t k x is. elim (cases_eq t s) [
    | inl et ↦
        let own : mark_at new s k ≡ Some x = let P : ℕ → Type 0 = λ n. mark_at new n k ≡ Some x in subst P et is in
        absurd (let e : None ≡ Some x = sym (none k) ∙ own in cc e)
    | inr nt ↦
        let was : mark_at old t k ≡ Some x = sym (others t k nt) ∙ is in
        let there = index.found t k x was in
        let off : has_slot x.id x.slot (present (slice_index_or old s no_entries).entries) ≡ false = elim (cases_Bool (has_slot x.id x.slot (present (slice_index_or old s no_entries).entries))) [
          | inl some ↦
              let p = place_of (is_on x.id x.slot) (slice_index_or old s no_entries).entries some in
              let here = found_on old hold x.id x.slot s p.0 p.1 index p.2 p.3 in
              let one : record { session = t; at = k; removed = x.removed } ≡ record { session = s; at = p.0; removed = p.1.removed } = same_hold _ _ (sym there ∙ here) in
              absurd (nt (ap (λ h. h.session) one))
          | inr never ↦ never
        ] in
        told x.id x.slot ∙ rw off there
  ];
  real = λ id slot it is. elim (cases_Bool (has_slot id slot (present (slice_index_or old s no_entries).entries))) [
    | inl some ↦ absurd (let e : None ≡ Some it = sym (told id slot ∙ rw some refl) ∙ is in cc e)
    | inr never ↦
        let was : hold id slot ≡ Some it = sym (told id slot ∙ rw never refl) ∙ is in
        let r = index.real id slot it was in
        elim (cases_eq it.session s) [
          | inl es ↦
              let P : ℕ → Type 0 = λ n. mark_at old n it.at ≡ Some r.0 in
              absurd (both_ways (has_slot id slot (present (slice_index_or old s no_entries).entries)) never (any_at (is_on id slot) (slice_index_or old s no_entries).entries it.at r.0 (subst P es r.1) r.2))
          | inr ns ↦ (r.0, others it.session it.at ns ∙ r.1, r.2)
        ]
  ];
}

-- the index and the entries are as they were
pub index_same : (old new : List SessionEntries) (hold now : ℕ → ℕ → Option Hold) → IsSlotIndex old hold → ((t k : ℕ) → mark_at new t k ≡ mark_at old t k)
    → ((i n : ℕ) → now i n ≡ hold i n) → IsSlotIndex new now
index_same old new hold now index same told = record {
  found = λ t k x is. told x.id x.slot ∙ index.found t k x (sym (same t k) ∙ is);
  real = λ id slot it is. let r = index.real id slot it (sym (told id slot) ∙ is) in (r.0, same it.session it.at ∙ r.1, r.2);
}

-- a session with a mark is there
pub session_there : (tables : List SessionEntries) (s at : ℕ) (m : Mark) → mark_at tables s at ≡ Some m → s < length tables
session_there tables s at m is = elim (cases_lt s (length tables)) [
  | inl below ↦ below
  | inr past ↦
      let none : mark_at tables s at ≡ None = ap (λ t. entry_at t.entries at) (get_or_past tables s no_entries past) in
      absurd (let e : None ≡ Some m = sym none ∙ is in cc e)
]

-- where a mark that is held stands
pub held_there : (tables : List SessionEntries) (hold : ℕ → ℕ → Option Hold) (id slot : ℕ) (it : Hold) → IsSlotIndex tables hold → hold id slot ≡ Some it
    → (it.session < length tables) × (it.at < length (slice_index_or tables it.session no_entries).entries)
held_there tables hold id slot it index is =
    let r = index.real id slot it is in
    (session_there tables it.session it.at r.0 r.1, within (slice_index_or tables it.session no_entries).entries it.at r.0 r.1)

pub table_with_room : (tables : List SessionEntries) (s : ℕ) → 0 < (slice_index_or tables s no_entries).spare → s < length tables
table_with_room tables s room = elim (cases_lt s (length tables)) [
  | inl below ↦ below
  | inr past ↦
      let none : (slice_index_or tables s no_entries).spare ≡ 0 = ap (λ t. t.spare) (get_or_past tables s no_entries past) in
      absurd (omega arith)
]

-- nothing stands past the last place
pub past_end : (tables : List SessionEntries) (s : ℕ) → mark_at tables s (length (slice_index_or tables s no_entries).entries) ≡ None
past_end tables s = let es = (slice_index_or tables s no_entries).entries in get_or_past es (length es) None (omega arith)

pub emptied_at : (tables : List SessionEntries) (s : ℕ) → s < length tables → (k : ℕ) → mark_at (slice_set tables s no_entries) s k ≡ None
emptied_at tables s there k = ap (λ t. entry_at t.entries k) (get_or-set_same tables s no_entries no_entries there)

pub kept_beside_it : (tables : List SessionEntries) (s : ℕ) (table : SessionEntries) (t k : ℕ) → t ≢ s → mark_at (slice_set tables s table) t k ≡ mark_at tables t k
kept_beside_it tables s table t k ne = ap (λ x. entry_at x.entries k) (get_or-set_other tables s t table no_entries ne)

removed_kept : (mark own : Mark) → is_on mark.id mark.slot own ≡ true → (kept_beside mark own).removed ≡ (own.removed || mark.removed)
removed_kept mark own on = rw on refl

-- the mark that is held becomes removed where the new one is
pub index_kept : (tables : List SessionEntries) (hold now : ℕ → ℕ → Option Hold) (mark : Mark) (it : Hold) → IsSlotIndex tables hold → hold mark.id mark.slot ≡ Some it
    → ((id slot : ℕ) → now id slot ≡ cond (is_same_slot (mark.id, mark.slot) (id, slot)) (Some (record { session = it.session; at = it.at; removed = it.removed || mark.removed })) (hold id slot))
    → IsSlotIndex (
    slice_set tables it.session (with_entry (slice_index_or tables it.session no_entries) it.at (option_map (kept_beside mark) (entry_at (slice_index_or tables it.session no_entries).entries it.at)))
    ) now
index_kept tables hold now mark it index held told =
    let only = only_there tables hold mark.id mark.slot it index held in
    let m = only.0 in
    let new = kept_beside mark m in
    let there = held_there tables hold mark.id mark.slot it index held in
    let P : Option Mark → Type 0 = λ e. IsSlotIndex (slice_set tables it.session (with_entry (slice_index_or tables it.session no_entries) it.at (option_map (kept_beside mark) e))) now in
    let mine = its_slot m mark.id mark.slot only.1.passes in
    let id_is : new.id ≡ mark.id = kept_id mark m ∙ mine.0 in
    let slot_is : new.slot ≡ mark.slot = kept_slot mark m ∙ mine.1 in
    let removed_is : (it.removed || mark.removed) ≡ new.removed = ap (λ b. b || mark.removed) only.2 ∙ sym (removed_kept mark m only.1.passes) in
    subst P (sym only.1.here) (
    index_written tables _ hold now it.session it.at new index (set_at tables it.session it.at (Some new) there.0 there.1)
    (λ x is.
    let same : m ≡ x = let e : Some m ≡ Some x = sym only.1.here ∙ is in cc e in
    on_it x new.id new.slot (ap (λ y. y.id) (sym same) ∙ mine.0 ∙ sym id_is) (ap (λ y. y.slot) (sym same) ∙ mine.1 ∙ sym slot_is))
    (λ h is.
    let same : it ≡ h = same_hold it h (sym held ∙ (λ i. hold (sym id_is i) (sym slot_is i)) ∙ is) in
    (ap (λ y. y.session) (sym same), ap (λ y. y.at) (sym same)))
    (λ id slot.
    told id slot
    ∙ (λ i. cond (is_same_slot (sym id_is i, sym slot_is i) (id, slot)) (Some (record { session = it.session; at = it.at; removed = removed_is i })) (hold id slot)))
    )
