-- What is kept of the whole where one session changes.
use Rattle.std.proofs.Common.{◌≡◌, ℕ, ◌+◌, ◌-◌, ◌<◌, ◌≤◌, ◌^◌, List, [], ◌∷◌, ◌++◌, length, length-set, map, false, inl, inr, Result, Ok, Err, OnErr, Option, Some, None, slice_set, slice_index_or, refl, sym, ◌∙◌, ap, subst, arith}
use Rattle.std.specs.Option.{option_map}
use Rattle.std.proofs.lemmas.Bool.{cases_eq, cases_lt, cases_Bool, both_ways}
use Rattle.std.proofs.lemmas.List.{length-map, get_or_past, get_or-set_same, get_or-set_other, map-set}
use Rattle.std.proofs.lemmas.List.Sums.{sum_by-set}
use Rattle.slot_marks.specs.Marks.{SessionMarks, no_marks, marks_of, spare_of, is_on, has_slot, has_any_group, kept_beside, released, IsFreeSlot, IsFreeFor, SameMarks, ChangesOnly}
use Rattle.row_locks.specs.Entries.{SessionEntries, no_entries, shown, unranked, present, entry_at, all_spare, with_mark, with_entry, with_room}
use Rattle.row_locks.specs.Slots.{IsSlotIndex, IsSound}
use Rattle.slot_marks.specs.declared.mark.Group.{Group}
use Rattle.slot_marks.specs.declared.mark.Mark.{Mark}
use Rattle.row_locks.specs.declared.slots.Hold.{Hold}
use Rattle.row_locks.proofs.EntryLemmas.{present-push, taken_out, changed_in_place}
use Rattle.row_locks.proofs.IndexLemmas.{kept_off}
use Rattle.row_locks.proofs.PlaceLemmas.{unranked_at, unranked_spare, unranked_length}
use Rattle.row_locks.proofs.TableLemmas.{marks_at, spare_there, shown_at, only_there, held_there, index_same}
use Rattle.row_locks.proofs.SessionLemmas.{one_changed, marks_set, spare_set, held_after_put, held_after_keep, held_after_release, once_with_same, once_with_fewer}

-- what is seen of one session that changed
pub told_set : (locks new : List SessionMarks) (s : ℕ) (m : SessionMarks) → new ≡ slice_set locks s m → s < length locks
    → (marks_of new s ≡ m.marks) × (spare_of new s ≡ m.spare) × ChangesOnly locks new s
told_set locks new s m is there = rw is (marks_set locks s m there, spare_set locks s m there, one_changed locks s m)

pub shown_length : (tables : List SessionEntries) → length (map shown tables) ≡ length tables
shown_length tables = length-map tables shown

pub spare_below : (tables : List SessionEntries) (s : ℕ) → (slice_index_or tables s no_entries).spare ≤ all_spare tables
spare_below tables s = elim (cases_lt s (length tables)) [
  | inl below ↦ let sum = sum_by-set (λ t. t.spare) tables s no_entries no_entries below in omega arith
  | inr past ↦
      let none : (slice_index_or tables s no_entries).spare ≡ 0 = ap (λ t. t.spare) (get_or_past tables s no_entries past) in
      omega arith
]

pub put_shown : (tables : List SessionEntries) (s : ℕ) (mark : Mark) (rank : Option ℕ)
    → map shown (slice_set tables s (with_mark (slice_index_or tables s no_entries) mark rank))
    ≡ slice_set (map shown tables) s (record { marks = marks_of (map shown tables) s ++ mark ∷ []; spare = spare_of (map shown tables) s - 1 })
put_shown tables s mark rank =
    map-set shown tables s _
    ∙ ap (slice_set (map shown tables) s)
    (λ i. record {
      marks = (present-push (slice_index_or tables s no_entries).entries mark ∙ ap (λ xs. xs ++ mark ∷ []) (sym (marks_at tables s))) i;
      spare = sym (spare_there tables s) i - 1;
    })

pub kept_shown : (tables : List SessionEntries) (hold : ℕ → ℕ → Option Hold) (mark : Mark) (it : Hold) → IsSlotIndex tables hold → hold mark.id mark.slot ≡ Some it
    → map shown (
    slice_set tables it.session (with_entry (slice_index_or tables it.session no_entries) it.at (option_map (kept_beside mark) (entry_at (slice_index_or tables it.session no_entries).entries it.at)))
    ) ≡ slice_set (map shown tables) it.session (record { marks = map (kept_beside mark) (marks_of (map shown tables) it.session); spare = spare_of (map shown tables) it.session })
kept_shown tables hold mark it index is =
    let es = (slice_index_or tables it.session no_entries).entries in
    let only = only_there tables hold mark.id mark.slot it index is in
    let kept : present (slice_set es it.at (option_map (kept_beside mark) (entry_at es it.at))) ≡ map (kept_beside mark) (present es) =
    ap (λ e. present (slice_set es it.at (option_map (kept_beside mark) e))) only.1.here ∙ changed_in_place (is_on mark.id mark.slot) (kept_beside mark) (kept_off mark) es it.at only.0 only.1 in
    map-set shown tables it.session _
    ∙ ap (slice_set (map shown tables) it.session)
    (λ i. record { marks = (kept ∙ ap (map (kept_beside mark)) (sym (marks_at tables it.session))) i; spare = sym (spare_there tables it.session) i })

pub released_shown : (tables : List SessionEntries) (hold : ℕ → ℕ → Option Hold) (id slot : ℕ) (it : Hold) → IsSlotIndex tables hold → hold id slot ≡ Some it
    → map shown (slice_set tables it.session (with_entry (slice_index_or tables it.session no_entries) it.at None))
    ≡ slice_set (map shown tables) it.session (record { marks = released (marks_of (map shown tables) it.session) id slot; spare = spare_of (map shown tables) it.session })
released_shown tables hold id slot it index is =
    let es = (slice_index_or tables it.session no_entries).entries in
    let only = only_there tables hold id slot it index is in
    let left : present (slice_set es it.at None) ≡ released (present es) id slot = taken_out (is_on id slot) es it.at only.0 only.1 in
    map-set shown tables it.session _
    ∙ ap (slice_set (map shown tables) it.session)
    (λ i. record { marks = (left ∙ ap (λ marks. released marks id slot) (sym (marks_at tables it.session))) i; spare = sym (spare_there tables it.session) i })

-- marks of which none is on the slot
pub kept_none : (mark : Mark) (marks : List Mark) → has_slot mark.id mark.slot marks ≡ false → map (kept_beside mark) marks ≡ marks
kept_none mark [] none = refl
kept_none mark (x ∷ xs) none = elim (cases_Bool (is_on mark.id mark.slot x)) [
  | inl on ↦ absurd (both_ways (has_slot mark.id mark.slot (x ∷ xs)) none (rw on refl))
  | inr off ↦ let rest : has_slot mark.id mark.slot xs ≡ false = rw off at none in λ i. kept_off mark x off i ∷ kept_none mark xs rest i
]

pub released_none : (id slot : ℕ) (marks : List Mark) → has_slot id slot marks ≡ false → released marks id slot ≡ marks
released_none id slot [] none = refl
released_none id slot (x ∷ xs) none = elim (cases_Bool (is_on id slot x)) [
  | inl on ↦ absurd (both_ways (has_slot id slot (x ∷ xs)) none (rw on refl))
  | inr off ↦ let rest : has_slot id slot xs ≡ false = rw off at none in rw off (ap (λ ys. x ∷ ys) (released_none id slot xs rest))
]

pub free_for_all : (tables : List SessionEntries) (s : ℕ) (mark : Mark) → has_slot mark.id mark.slot (marks_of (map shown tables) s) ≡ false → IsFreeFor (map shown tables) s mark
    → IsFreeSlot (map shown tables) mark.id mark.slot
free_for_all tables s mark own free = λ t. elim (cases_eq t s) [
  | inl same ↦ ap (λ n. has_slot mark.id mark.slot (marks_of (map shown tables) n)) same ∙ own
  | inr ne ↦ free.slot t ne
]

-- the sum where one session's room changes
sum_set : (tables : List SessionEntries) (s : ℕ) (table : SessionEntries) → s < length tables → all_spare (slice_set tables s table) + (slice_index_or tables s no_entries).spare ≡ all_spare tables + table.spare
sum_set tables s table there = sum_by-set (λ t. t.spare) tables s table no_entries there

pub put_sound : (tables : List SessionEntries) (hold now : ℕ → ℕ → Option Hold) (spare room left s : ℕ) (mark : Mark) (rank : Option ℕ) → IsSound tables hold spare room → s < length tables
    → 0 < (slice_index_or tables s no_entries).spare → IsFreeFor (map shown tables) s mark
    → IsSlotIndex (slice_set tables s (with_mark (slice_index_or tables s no_entries) mark rank)) now
    → room ≤ left + 1
    → IsSound (slice_set tables s (with_mark (slice_index_or tables s no_entries) mark rank)) now (spare - 1) left
put_sound tables hold now spare room left s mark rank sound there has free index fits =
    let put : SessionEntries = with_mark (slice_index_or tables s no_entries) mark rank in
    let some : 0 < spare_of (map shown tables) s = rw (spare_there tables s) has in
    let held = held_after_put (2 ^ 32) (map shown tables) (map shown (slice_set tables s put)) s mark (put_shown tables s mark rank) some free (rw (shown_length tables) sound.bound, sound.once) in
    let sum = sum_set tables s put there in
    record {
      bound = rw length-set sound.bound;
      once = held.1;
      slots = index;
      within = let most = sound.within in omega arith;
      fits = let most = sound.fits in omega arith;
    }

pub kept_sound : (tables new : List SessionEntries) (hold now : ℕ → ℕ → Option Hold) (spare room left : ℕ) (mark : Mark) (it : Hold) → IsSound tables hold spare room → hold mark.id mark.slot ≡ Some it
    → new ≡ slice_set tables it.session (with_entry (slice_index_or tables it.session no_entries) it.at (option_map (kept_beside mark) (entry_at (slice_index_or tables it.session no_entries).entries it.at)))
    → IsSlotIndex new now → room ≤ left → IsSound new now spare left
kept_sound tables new hold now spare room left mark it sound is made index fits =
    let es = (slice_index_or tables it.session no_entries).entries in
    let kept : SessionEntries = with_entry (slice_index_or tables it.session no_entries) it.at (option_map (kept_beside mark) (entry_at es it.at)) in
    let there = held_there tables hold mark.id mark.slot it sound.slots is in
    let inside : it.session < length (map shown tables) = rw (shown_length tables) there.0 in
    let held = held_after_keep (2 ^ 32) (map shown tables) (map shown new) it.session mark (ap (map shown) made ∙ kept_shown tables hold mark it sound.slots is) inside (rw (shown_length tables) sound.bound, sound.once) in
    let sum = sum_set tables it.session kept there.0 in
    let same : all_spare new ≡ all_spare (slice_set tables it.session kept) = ap all_spare made in
    record {
      bound = rw made (rw length-set sound.bound);
      once = held.1;
      slots = index;
      within = let most = sound.within in omega arith;
      fits = let most = sound.fits in omega arith;
    }

pub released_sound : (tables new : List SessionEntries) (hold now : ℕ → ℕ → Option Hold) (spare room left id slot : ℕ) (it : Hold) → IsSound tables hold spare room → hold id slot ≡ Some it
    → new ≡ slice_set tables it.session (with_entry (slice_index_or tables it.session no_entries) it.at None)
    → IsSlotIndex new now → room ≤ left → IsSound new now spare left
released_sound tables new hold now spare room left id slot it sound is made index fits =
    let es = (slice_index_or tables it.session no_entries).entries in
    let gone : SessionEntries = with_entry (slice_index_or tables it.session no_entries) it.at None in
    let there = held_there tables hold id slot it sound.slots is in
    let inside : it.session < length (map shown tables) = rw (shown_length tables) there.0 in
    let held = held_after_release (2 ^ 32) (map shown tables) (map shown new) it.session id slot (ap (map shown) made ∙ released_shown tables hold id slot it sound.slots is) inside (rw (shown_length tables) sound.bound, sound.once) in
    let sum = sum_set tables it.session gone there.0 in
    let same : all_spare new ≡ all_spare (slice_set tables it.session gone) = ap all_spare made in
    record {
      bound = rw made (rw length-set sound.bound);
      once = held.1;
      slots = index;
      within = let most = sound.within in omega arith;
      fits = let most = sound.fits in omega arith;
    }

no_group : (group : Option Group) → has_any_group group [] ≡ false
no_group None = refl
no_group (Some group) = refl

pub emptied_shown : (tables : List SessionEntries) (s : ℕ) → map shown (slice_set tables s no_entries) ≡ slice_set (map shown tables) s no_marks
emptied_shown tables s = map-set shown tables s no_entries

pub emptied_sound : (tables new : List SessionEntries) (hold now : ℕ → ℕ → Option Hold) (spare room left s : ℕ) → IsSound tables hold spare room → s < length tables → new ≡ slice_set tables s no_entries
    → IsSlotIndex new now → room ≤ left → IsSound new now (spare - (slice_index_or tables s no_entries).spare) left
emptied_sound tables new hold now spare room left s sound there made index fits =
    let inside : s < length (map shown tables) = rw (shown_length tables) there in
    let told = told_set (map shown tables) (map shown new) s no_marks (ap (map shown) made ∙ emptied_shown tables s) inside in
    let sum = sum_set tables s no_entries there in
    let same : all_spare new ≡ all_spare (slice_set tables s no_entries) = ap all_spare made in
    record {
      bound = rw made (rw length-set sound.bound);
      once = once_with_fewer (map shown tables) (map shown new) s told.2
          (λ id slot h. absurd (both_ways false refl (ap (has_slot id slot) (sym told.0) ∙ h)))
          (λ group h. absurd (both_ways (has_any_group group []) (no_group group) (ap (has_any_group group) (sym told.0) ∙ h)))
          sound.once;
      slots = index;
      within = let most = sound.within in let some = spare_below tables s in omega arith;
      fits = let most = sound.fits in omega arith;
    }

pub same_shown : (tables new : List SessionEntries) → ((s : ℕ) → unranked (slice_index_or new s no_entries) ≡ unranked (slice_index_or tables s no_entries))
    → (s : ℕ) → slice_index_or (map shown new) s no_marks ≡ slice_index_or (map shown tables) s no_marks
same_shown tables new same s = shown_at new s ∙ ap shown (same s) ∙ sym (shown_at tables s)

pub same_marks : (tables new : List SessionEntries) → ((s : ℕ) → unranked (slice_index_or new s no_entries) ≡ unranked (slice_index_or tables s no_entries)) → SameMarks (map shown tables) (map shown new)
same_marks tables new same = λ s. ap (λ m. m.marks) (same_shown tables new same s)

pub same_spare : (tables new : List SessionEntries) → ((s : ℕ) → unranked (slice_index_or new s no_entries) ≡ unranked (slice_index_or tables s no_entries)) → (s : ℕ) → spare_of (map shown new) s ≡ spare_of (map shown tables) s
same_spare tables new same = λ s. ap (λ m. m.spare) (same_shown tables new same s)

pub changes_nothing : (tables new : List SessionEntries) (s : ℕ) → ((t : ℕ) → unranked (slice_index_or new t no_entries) ≡ unranked (slice_index_or tables t no_entries)) → ChangesOnly (map shown tables) (map shown new) s
changes_nothing tables new s same = record { marks = λ t ne. same_marks tables new same t; spare = λ t ne. same_spare tables new same t }

-- the same tables, some of them empty at the end
pub same_sound : (tables new : List SessionEntries) (hold now : ℕ → ℕ → Option Hold) (spare room left : ℕ) → IsSound tables hold spare room
    → ((s : ℕ) → unranked (slice_index_or new s no_entries) ≡ unranked (slice_index_or tables s no_entries)) → all_spare new ≡ all_spare tables → (length tables ≤ 2 ^ 32 → length new ≤ 2 ^ 32)
    → ((id slot : ℕ) → now id slot ≡ hold id slot) → room ≤ left → IsSound new now spare left
same_sound tables new hold now spare room left sound same sum bound told fits = record {
  bound = bound sound.bound;
  once = once_with_same (map shown tables) (map shown new) (same_marks tables new same) sound.once;
  slots = index_same tables new hold now sound.slots (λ t k. ap (λ x. entry_at x.entries k) (same t)) told;
  within = let most = sound.within in omega arith;
  fits = let most = sound.fits in omega arith;
}

-- ranks alone change
pub unranked_sound : (tables new : List SessionEntries) (hold : ℕ → ℕ → Option Hold) (spare room : ℕ) → IsSound tables hold spare room → map unranked new ≡ map unranked tables → IsSound new hold spare room
unranked_sound tables new hold spare room sound same =
    same_sound tables new hold hold spare room room sound (unranked_at tables new same) (unranked_spare tables new same) (λ bound. let long = unranked_length tables new same in omega arith) (λ id slot. refl) (omega arith)

-- there is room for one more mark of a session that is there
pub reserved_sound : (tables new : List SessionEntries) (hold : ℕ → ℕ → Option Hold) (spare more room s : ℕ) → IsSound tables hold spare room → s < length tables
    → new ≡ slice_set tables s (with_room (slice_index_or tables s no_entries))
    → more ≡ spare + 1 → more ≤ room → IsSound new hold more room
reserved_sound tables new hold spare more room s sound there made is fits =
    let roomier : SessionEntries = with_room (slice_index_or tables s no_entries) in
    let same : (t : ℕ) → (slice_index_or new t no_entries).entries ≡ (slice_index_or tables t no_entries).entries = λ t. elim (cases_eq t s) [
      | inl e ↦ ap (λ x. (slice_index_or x t no_entries).entries) made ∙ (let P : ℕ → Type 0 = λ n. (slice_index_or (slice_set tables s roomier) n no_entries).entries ≡ (slice_index_or tables n no_entries).entries in subst P (sym e) (ap (λ x. x.entries) (get_or-set_same tables s roomier no_entries there)))
      | inr ne ↦ ap (λ x. (slice_index_or x t no_entries).entries) made ∙ ap (λ x. x.entries) (get_or-set_other tables s t roomier no_entries ne)
    ] in
    let sum = sum_set tables s roomier there in
    let total : all_spare new ≡ all_spare (slice_set tables s roomier) = ap all_spare made in
    record {
      bound = rw made (rw length-set sound.bound);
      once = once_with_same (map shown tables) (map shown new) (λ t. marks_at new t ∙ ap present (same t) ∙ sym (marks_at tables t)) sound.once;
      slots = index_same tables new hold hold sound.slots (λ t k. ap (λ es. entry_at es k) (same t)) (λ i n. refl);
      within = let most = sound.within in omega arith;
      fits = fits;
    }

pub reserved_told : (tables before new : List SessionEntries) (s : ℕ) → ((t : ℕ) → unranked (slice_index_or tables t no_entries) ≡ unranked (slice_index_or before t no_entries)) → s < length tables
    → new ≡ slice_set tables s (with_room (slice_index_or tables s no_entries))
    → (spare_of (map shown new) s ≡ spare_of (map shown before) s + 1) × SameMarks (map shown before) (map shown new) × ChangesOnly (map shown before) (map shown new) s
reserved_told tables before new s same there made =
    let is : map shown new ≡ slice_set (map shown tables) s (record { marks = marks_of (map shown tables) s; spare = spare_of (map shown tables) s + 1 }) =
    ap (map shown) made
    ∙ map-set shown tables s _
    ∙ ap (slice_set (map shown tables) s) (λ i. record { marks = sym (marks_at tables s) i; spare = sym (spare_there tables s) i + 1 }) in
    let told = told_set (map shown tables) (map shown new) s _ is (rw (shown_length tables) there) in
    let marks = same_marks before tables same in
    let spare = same_spare before tables same in (
      told.1 ∙ ap (λ n. n + 1) (spare s),
      λ t. elim (cases_eq t s) [
        | inl e ↦ let P : ℕ → Type 0 = λ n. marks_of (map shown new) n ≡ marks_of (map shown before) n in subst P (sym e) (told.0 ∙ marks s)
        | inr ne ↦ told.2.marks t ne ∙ marks t
      ],
      record { marks = λ t ne. told.2.marks t ne ∙ marks t; spare = λ t ne. told.2.spare t ne ∙ spare t },
    )

pub given : {T E : Type 0} (r : Result T E) {P : Type 0} → P → OnErr r P
given (Ok x) p = tt
given (Err e) p = p
