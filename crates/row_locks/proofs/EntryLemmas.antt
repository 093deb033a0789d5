-- Entries beside the marks that are present in them.
use Rattle.std.proofs.Common.{◌≡◌, ◌≢◌, ℕ, suc, zero, List, [], ◌∷◌, ◌++◌, map, Bool, true, false, not, ◌&&◌, ◌||◌, inl, inr, Option, Some, None, slice_set, refl, sym, ◌∙◌, ap, subst, arith}
use Rattle.std.specs.List.{list_any, filter}
use Rattle.std.specs.Option.{option_map_or}
use Rattle.std.proofs.lemmas.Bool.{cases_eq, cases_Bool, and_parts, and_from, both_ways}
use Rattle.row_locks.specs.Entries.{present, entry_at}
use Rattle.slot_marks.specs.declared.mark.Mark.{Mark}

pub present-push : (es : List (Option Mark)) (m : Mark) → present (es ++ Some m ∷ []) ≡ present es ++ m ∷ []
present-push [] m = refl
present-push (None ∷ es) m = present-push es m
present-push (Some x ∷ es) m = ap (λ xs. x ∷ xs) (present-push es m)

-- a test of marks that is true of an entry is true of one that is present, and the other way round
pub any-present : (test : Mark → Bool) (es : List (Option Mark)) → list_any test (present es) ≡ list_any (λ e. option_map_or test e false) es
any-present test [] = refl
any-present test (None ∷ es) = any-present test es
any-present test (Some x ∷ es) = ap (λ b. test x || b) (any-present test es)

pub any_at : (test : Mark → Bool) (es : List (Option Mark)) (at : ℕ) (m : Mark) → entry_at es at ≡ Some m → test m ≡ true → list_any test (present es) ≡ true
any_at test [] at m is passes = cc is
any_at test (None ∷ es) zero m is passes = cc is
any_at test (Some x ∷ es) zero m is passes = let same : x ≡ m = cc in rw (same, passes) refl
any_at test (None ∷ es) (suc at) m is passes = any_at test es at m is passes
any_at test (Some x ∷ es) (suc at) m is passes =
    let later : list_any test (present es) ≡ true = any_at test es at m is passes in
    elim (cases_Bool (test x)) [ inl here ↦ rw here refl | inr not_here ↦ rw (not_here, later) refl ]

pub place_of : (test : Mark → Bool) (es : List (Option Mark)) → list_any test (present es) ≡ true → (at : ℕ) × (m : Mark) × (entry_at es at ≡ Some m) × (test m ≡ true)
place_of test [] h = absurd (both_ways false refl h)
place_of test (None ∷ es) h = let p = place_of test es h in (suc p.0, p.1, p.2, p.3)
place_of test (Some x ∷ es) h = elim (cases_Bool (test x)) [
  | inl here ↦ (0, x, refl, here)
  | inr not_here ↦
      let later : list_any test (present es) ≡ true = rw not_here at h in
      let p = place_of test es later in
      (suc p.0, p.1, p.2, p.3)
]

-- a test that only the mark at one place passes
pub record IsOnly (test : Mark → Bool) (es : List (Option Mark)) (at : ℕ) (m : Mark) : Type 0 where
  pub here : entry_at es at ≡ Some m
  pub passes : test m ≡ true
  pub others : (k : ℕ) (x : Mark) → k ≢ at → entry_at es k ≡ Some x → test x ≡ false

pub none_left : (test : Mark → Bool) (es : List (Option Mark)) → ((k : ℕ) (x : Mark) → entry_at es k ≡ Some x → test x ≡ false) → filter (λ x. not (test x)) (present es) ≡ present es
none_left test [] none = refl
none_left test (None ∷ es) none = none_left test es (λ k x. none (suc k) x)
none_left test (Some y ∷ es) none =
    let not_it : test y ≡ false = none 0 y refl in
    rw not_it (ap (λ xs. y ∷ xs) (none_left test es (λ k x. none (suc k) x)))

suc_apart : (k at : ℕ) → k ≢ at → suc k ≢ suc at
suc_apart k at ne same = ne (omega arith)

zero_apart : (k : ℕ) → suc k ≢ 0
zero_apart k same = absurd (omega arith)

pub taken_out : (test : Mark → Bool) (es : List (Option Mark)) (at : ℕ) (m : Mark) → IsOnly test es at m → present (slice_set es at None) ≡ filter (λ x. not (test x)) (present es)
taken_out test [] at m only = refl
taken_out test (None ∷ es) zero m only = cc only.here
taken_out test (Some y ∷ es) zero m only =
    let same : y ≡ m = let e = only.here in cc in
    let it : test y ≡ true = ap test same ∙ only.passes in
    rw it (sym (none_left test es (λ k x is. only.others (suc k) x (zero_apart k) is)))
taken_out test (None ∷ es) (suc at) m only =
    taken_out test es at m (record { here = only.here; passes = only.passes; others = λ k x ne is. only.others (suc k) x (suc_apart k at ne) is })
taken_out test (Some y ∷ es) (suc at) m only =
    let not_it : test y ≡ false = only.others 0 y (λ same. zero_apart at (sym same)) refl in
    rw not_it (
    ap (λ xs. y ∷ xs) (taken_out test es at m (record { here = only.here; passes = only.passes; others = λ k x ne is. only.others (suc k) x (suc_apart k at ne) is }))
    )

pub none_changed : (test : Mark → Bool) (f : Mark → Mark) → ((x : Mark) → test x ≡ false → f x ≡ x) → (es : List (Option Mark)) → ((k : ℕ) (x : Mark) → entry_at es k ≡ Some x → test x ≡ false) → map f (present es) ≡ present es
none_changed test f same [] none = refl
none_changed test f same (None ∷ es) none = none_changed test f same es (λ k x. none (suc k) x)
none_changed test f same (Some y ∷ es) none = λ i. same y (none 0 y refl) i ∷ none_changed test f same es (λ k x. none (suc k) x) i

pub changed_in_place : (test : Mark → Bool) (f : Mark → Mark) → ((x : Mark) → test x ≡ false → f x ≡ x) → (es : List (Option Mark)) (at : ℕ) (m : Mark) → IsOnly test es at m → present (slice_set es at (Some (f m))) ≡ map f (present es)
changed_in_place test f same [] at m only = refl
changed_in_place test f same (None ∷ es) zero m only = cc only.here
changed_in_place test f same (Some y ∷ es) zero m only =
    let it : y ≡ m = let e = only.here in cc in
    let rest = none_changed test f same es (λ k x is. only.others (suc k) x (zero_apart k) is) in
    let head : f m ≡ f y = ap f (sym it) in
    let tail : present es ≡ map f (present es) = sym rest in
    λ i. head i ∷ tail i
changed_in_place test f same (None ∷ es) (suc at) m only =
    changed_in_place test f same es at m (record { here = only.here; passes = only.passes; others = λ k x ne is. only.others (suc k) x (suc_apart k at ne) is })
changed_in_place test f same (Some y ∷ es) (suc at) m only =
    let not_it : test y ≡ false = only.others 0 y (λ e. zero_apart at (sym e)) refl in
    let rest = changed_in_place test f same es at m (record { here = only.here; passes = only.passes; others = λ k x ne is. only.others (suc k) x (suc_apart k at ne) is }) in
    let head : y ≡ f y = sym (same y not_it) in
    λ i. head i ∷ rest i

-- what else the one mark is
pub only_one : (test also : Mark → Bool) (es : List (Option Mark)) (at : ℕ) (m : Mark) → IsOnly test es at m → list_any (λ x. test x && also x) (present es) ≡ also m
only_one test also es at m only = elim (cases_Bool (also m)) [
  | inl it ↦ any_at (λ x. test x && also x) es at m only.here (and_from (test m) (also m) only.passes it) ∙ sym it
  | inr not_it ↦ elim (cases_Bool (list_any (λ x. test x && also x) (present es))) [
    | inl some ↦
        let p = place_of (λ x. test x && also x) es some in
        let both = and_parts (test p.1) (also p.1) p.3 in
        elim (cases_eq p.0 at) [
          | inl here ↦
              let P : ℕ → Type 0 = λ k. entry_at es k ≡ Some p.1 in
              let is : entry_at es at ≡ Some p.1 = subst P here p.2 in
              let is' = only.here in
              let same : p.1 ≡ m = cc (is, is') in
              absurd (both_ways (also m) not_it (ap also (sym same) ∙ both.1))
          | inr elsewhere ↦ absurd (both_ways (test p.1) (only.others p.0 p.1 elsewhere p.2) both.0)
        ]
    | inr none ↦ none ∙ sym not_it
  ]
]
