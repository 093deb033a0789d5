-- Which slot a mark is on, and what passes a test.
use Rattle.std.proofs.Common.{◌≡◌, ℕ, ◌<◌, List, [], ◌∷◌, ◌++◌, length, Bool, true, false, ◌==◌, inl, inr, Option, Some, None, refl, sym, ◌∙◌, ap}
use Rattle.std.specs.List.{list_any}
use Rattle.std.specs.Option.{option_map_or}
use Rattle.std.proofs.lemmas.Bool.{cases_lt, cases_Bool, and_parts, and_from, eqb-true, eq-eqb, both_ways}
use Rattle.std.proofs.lemmas.List.{get_or_past}
use Rattle.slot_marks.specs.Marks.{is_on, kept_beside}
use Rattle.row_locks.specs.Entries.{present, entry_at}
use Rattle.row_locks.proofs.EntryLemmas.{present-push, any_at, place_of}
use Rattle.slot_marks.specs.declared.mark.Mark.{Mark}

pub on_it : (m : Mark) (id slot : ℕ) → m.id ≡ id → m.slot ≡ slot → is_on id slot m ≡ true
on_it m id slot e f = and_from (m.id == id) (m.slot == slot) (eq-eqb m.id id e) (eq-eqb m.slot slot f)

pub its_slot : (m : Mark) (id slot : ℕ) → is_on id slot m ≡ true → (m.id ≡ id) × (m.slot ≡ slot)
its_slot m id slot h = let both = and_parts (m.id == id) (m.slot == slot) h in (eqb-true m.id id both.0, eqb-true m.slot slot both.1)

pub within : (es : List (Option Mark)) (at : ℕ) (m : Mark) → entry_at es at ≡ Some m → at < length es
within es at m is = elim (cases_lt at (length es)) [
  | inl below ↦ below
  | inr past ↦ let none = get_or_past es at None past in absurd (let e : None ≡ Some m = sym none ∙ is in cc e)
]

pub kept_off : (mark x : Mark) → is_on mark.id mark.slot x ≡ false → kept_beside mark x ≡ x
kept_off mark x off = rw off refl

pub kept_id : (mark own : Mark) → (kept_beside mark own).id ≡ own.id
kept_id mark own = elim (cases_Bool (is_on mark.id mark.slot own)) [ inl e ↦ rw e refl | inr e ↦ rw e refl ]

pub kept_slot : (mark own : Mark) → (kept_beside mark own).slot ≡ own.slot
kept_slot mark own = elim (cases_Bool (is_on mark.id mark.slot own)) [ inl e ↦ rw e refl | inr e ↦ rw e refl ]

pub entry_passes : (test : Mark → Bool) (es : List (Option Mark)) (at : ℕ) → option_map_or test (entry_at es at) false ≡ true → list_any test (present es) ≡ true
entry_passes test es at h = by (entry_at es at) refl h
  where
    by : (e : Option Mark) → entry_at es at ≡ e → option_map_or test e false ≡ true → list_any test (present es) ≡ true
    by None is passes = absurd (both_ways false refl passes)
    by (Some m) is passes = any_at test es at m is passes

pub none_passes : (test : Mark → Bool) (es : List (Option Mark)) → ((k : ℕ) → k < length es → option_map_or test (entry_at es k) false ≡ false) → list_any test (present es) ≡ false
none_passes test es none = elim (cases_Bool (list_any test (present es))) [
  | inl some ↦
      let p = place_of test es some in
      let passes : option_map_or test (entry_at es p.0) false ≡ true = ap (λ e. option_map_or test e false) p.2 ∙ p.3 in
      absurd (both_ways (option_map_or test (entry_at es p.0) false) (none p.0 (within es p.0 p.1 p.2)) passes)
  | inr never ↦ never
]

pub present_push_some : (es : List (Option Mark)) (e : Option Mark) (m : Mark) → e ≡ Some m → present (es ++ e ∷ []) ≡ present es ++ m ∷ []
present_push_some es e m is = rw is (present-push es m)

pub present_push_none : (es : List (Option Mark)) (e : Option Mark) → e ≡ None → present (es ++ e ∷ []) ≡ present es
present_push_none es e is = rw is (by es)
  where
    by : (xs : List (Option Mark)) → present (xs ++ None ∷ []) ≡ present xs
    by [] = refl
    by (None ∷ xs) = by xs
    by (Some x ∷ xs) = ap (λ ys. x ∷ ys) (by xs)
