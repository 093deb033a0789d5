-- How outcomes are kept: a few in a list, and the others in a map.
use Rattle.std.proofs.Common.{◌≡◌, ℕ, ◌<◌, ◌≤◌, ◌⊎◌, Bool, List, [], ◌∷◌, ◌++◌, true, false, cond, length, get_or, Option, Some, None, Result, Ok, Err, OnOk, inl, inr, refl, sym, ◌∙◌, ap, subst, arith}
use Rattle.std.specs.Prelude.{◌==◌, find, position, nat_lt, slice_get, if◌then◌else◌}
use Rattle.std.specs.List.{position_or_len}
use Rattle.std.specs.Option.{option_map, option_or}
use Rattle.std.proofs.lemmas.Bool.{cases_Bool, eqb-true, eq-eqb, ltb-true, ltb-false}
use Rattle.std.proofs.lemmas.List.Folds.{find_at, find-set, find_past, find-append}
use Rattle.std.proofs.lemmas.Option.{get_or_from_slice_get, slice_get_cases, slice_get_past}
use Rattle.queue_rows.specs.Rows.{set_some, changed_some, changed_nth}
use Rattle.queue_rows.specs.declared.change.Change.{Change}
use Rattle.exception_queues.specs.Outcomes.{next_outcome}
use Rattle.exception_queues.specs.declared.outcomes.Outcome.{Outcome}

abbrev among : List Outcome → ℕ → Option Outcome
among few id = find (λ o. o.id == id) few

-- ---- one more

or_none : (a b : Option Outcome) → option_or a b ≡ None → a ≡ None
or_none None b h = refl
or_none (Some x) b h = h

nothing_between : (a b : Option Outcome) → option_or (option_or a None) b ≡ option_or a b
nothing_between None b = refl
nothing_between (Some x) b = refl

-- the outcome of another message behind the few changes nothing, and an own one is found where none was
kept_in_list : (few : List Outcome) (o : Outcome) (many : ℕ → Option Outcome) (q : ℕ) → option_or (among few o.id) (many o.id) ≡ None
    → option_or (among (few ++ o ∷ []) q) (many q) ≡ (if o.id == q then Some o else option_or (among few q) (many q))
kept_in_list few o many q none = elim (cases_Bool (o.id == q)) [
  | inl same ↦
      let id : o.id ≡ q = eqb-true o.id q same in
      let absent : among few q ≡ None = ap (among few) (sym id) ∙ or_none (among few o.id) (many o.id) none in
      let found : among (few ++ o ∷ []) q ≡ Some o = find-append (λ x. x.id == q) few (o ∷ []) ∙ ap (λ a. option_or a (cond (o.id == q) (Some o) None)) absent ∙ ap (λ b. cond b (Some o) None) same in
      rw same (ap (λ a. option_or a (many q)) found)
  | inr other ↦
      let found : among (few ++ o ∷ []) q ≡ option_or (among few q) None = find-append (λ x. x.id == q) few (o ∷ []) ∙ ap (λ b. option_or (among few q) (cond b (Some o) None)) other in
      rw other (ap (λ a. option_or a (many q)) found ∙ nothing_between (among few q) (many q))
]

-- where it could be put behind the few
pub keeps_in_list : {E : Type 0} (made : Result (Unit {0}) E) (few longer : List Outcome) (o : Outcome) (many : ℕ → Option Outcome) → option_or (among few o.id) (many o.id) ≡ None
    → OnOk made (longer ≡ few ++ o ∷ []) → OnOk made ((q : ℕ) → option_or (among longer q) (many q) ≡ (if o.id == q then Some o else option_or (among few q) (many q)))
keeps_in_list (Ok _) few longer o many none pushed = λ q. ap (λ l. option_or (among l q) (many q)) pushed ∙ kept_in_list few o many q none
keeps_in_list (Err _) few longer o many none pushed = tt

-- ---- one that is changed

passes : (p : Outcome → Bool) (few : List Outcome) (o : Outcome) → find p few ≡ Some o → p o ≡ true
passes p [] o e = absurd (let f : None ≡ Some o = e in cc)
passes p (x ∷ few) o e = elim (cases_Bool (p x)) [
  | inl here ↦
      let found : Some x ≡ Some o = sym (ap (λ b. cond b (Some x) (find p few)) here) ∙ e in
      let same : x ≡ o = cc in
      ap p (sym same) ∙ here
  | inr elsewhere ↦ passes p few o (sym (ap (λ b. cond b (Some x) (find p few)) elsewhere) ∙ e)
]

at_position : (p : Outcome → Bool) (few : List Outcome) (at : ℕ) → position p few ≡ Some at → (at ≡ position_or_len p few) × (at < length few)
at_position p few at e =
    let first : ℕ = position_or_len p few in
    elim (cases_Bool (nat_lt first (length few))) [
      | inl within ↦
          let found : Some first ≡ Some at = sym (ap (λ b. cond b (Some first) None) within) ∙ e in
          let same : first ≡ at = cc in
          (sym same, subst (λ n. n < length few) same (ltb-true first (length few) within))
      | inr past ↦ absurd (let f : None ≡ Some at = sym (ap (λ b. cond b (Some first) None) past) ∙ e in cc)
    ]

no_position : (p : Outcome → Bool) (few : List Outcome) → position p few ≡ None → find p few ≡ None
no_position p few e =
    let first : ℕ = position_or_len p few in
    elim (cases_Bool (nat_lt first (length few))) [
      | inl within ↦ absurd (let f : Some first ≡ None = sym (ap (λ b. cond b (Some first) None) within) ∙ e in cc)
      | inr past ↦ find_at p few ∙ slice_get_past few first (ltb-false first (length few) past)
    ]

found_changed : (c : Change) (few : List Outcome) (id at q : ℕ) (found : Option Outcome) → at ≡ position_or_len (λ o. o.id == id) few → at < length few → among few id ≡ found → slice_get few at ≡ found
    → among (set_some few at (changed_some (next_outcome c) found)) q ≡ (if id == q then option_map (next_outcome c) found else among few q)
found_changed c few id at q None first within a s = elim (cases_Bool (id == q)) [
  | inl same ↦ rw same (ap (among few) (sym (eqb-true id q same)) ∙ a)
  | inr other ↦ rw other refl
]
found_changed c few id at q (Some o) first within a s =
    let own : o.id ≡ id = eqb-true o.id id (passes (λ x. x.id == id) few o a) in
    elim (cases_Bool (id == q)) [
      | inl same ↦
          let e : id ≡ q = eqb-true id q same in
          rw same (find-set (λ x. x.id == q) few at (next_outcome c o) (first ∙ ap (λ n. position_or_len (λ x. x.id == n) few) e) within (eq-eqb o.id q (own ∙ e)))
      | inr other ↦
          let not_it : (o.id == q) ≡ false = ap (λ n. n == q) own ∙ other in
          rw other (find_past (λ x. x.id == q) few at (next_outcome c o) o (ap (λ x. x.id == q) (get_or_from_slice_get few at o o s) ∙ not_it) not_it)
    ]

changed_at_position : (c : Change) (few : List Outcome) (id at q : ℕ) → position (λ o. o.id == id) few ≡ Some at
    → among (changed_nth (next_outcome c) at few) q ≡ (if id == q then option_map (next_outcome c) (among few id) else among few q)
changed_at_position c few id at q e =
    let first = at_position (λ o. o.id == id) few at e in
    let there : slice_get few at ≡ among few id = ap (slice_get few) first.0 ∙ sym (find_at (λ o. o.id == id) few) in
    ap (λ found. among (set_some few at (changed_some (next_outcome c) found)) q) there ∙ found_changed c few id at q (among few id) first.0 first.1 refl there

some_there : (p : Outcome → Bool) (few : List Outcome) (at : ℕ) → position p few ≡ Some at → (o : Outcome) × (find p few ≡ Some o)
some_there p few at e =
    let first = at_position p few at e in
    some_of (slice_get_cases few at) (ap (slice_get few) first.0 ∙ sym (find_at p few)) first.1
  where
    some_of : (slice_get few at ≡ slice_get few at) × (((x : Outcome) × (at < length few) × (slice_get few at ≡ Some x) × (get_or few at x ≡ x)) ⊎ ((length few ≤ at) × (slice_get few at ≡ None)))
        → slice_get few at ≡ find p few → at < length few → (o : Outcome) × (find p few ≡ Some o)
    some_of (same, inl (x, lt, is, read)) there within = (x, sym there ∙ is)
    some_of (same, inr (le, none)) there within = absurd (omega (arith, le, within))

-- the outcome that is changed stands among the few
advanced_in_list : (c : Change) (few : List Outcome) (many : ℕ → Option Outcome) (id at q : ℕ) → position (λ o. o.id == id) few ≡ Some at
    → option_or (among (changed_nth (next_outcome c) at few) q) (many q)
    ≡ (if id == q then option_map (next_outcome c) (option_or (among few id) (many id)) else option_or (among few q) (many q))
advanced_in_list c few many id at q e =
    let found = some_there (λ o. o.id == id) few at e in
    ap (λ a. option_or a (many q)) (changed_at_position c few id at q e) ∙ elim (cases_Bool (id == q)) [
      | inl same ↦ rw same (ap (λ a. option_or (option_map (next_outcome c) a) (many q)) found.1 ∙ sym (ap (λ a. option_map (next_outcome c) (option_or a (many id))) found.1))
      | inr other ↦ rw other refl
    ]

-- it stands in the map
advanced_in_map : (c : Change) (few : List Outcome) (old new : ℕ → Option Outcome) (id q : ℕ) → position (λ o. o.id == id) few ≡ None
    → new q ≡ (if id == q then option_map (next_outcome c) (old id) else old q)
    → option_or (among few q) (new q) ≡ (if id == q then option_map (next_outcome c) (option_or (among few id) (old id)) else option_or (among few q) (old q))
advanced_in_map c few old new id q e changed =
    let absent : among few id ≡ None = no_position (λ o. o.id == id) few e in
    elim (cases_Bool (id == q)) [
      | inl same ↦
          let here : among few q ≡ None = ap (among few) (sym (eqb-true id q same)) ∙ absent in
          rw same (ap (λ a. option_or a (new q)) here ∙ changed ∙ ap (λ b. cond b (option_map (next_outcome c) (old id)) (old q)) same ∙ sym (ap (λ a. option_map (next_outcome c) (option_or a (old id))) absent))
      | inr other ↦ rw other (ap (option_or (among few q)) (changed ∙ ap (λ b. cond b (option_map (next_outcome c) (old id)) (old q)) other))
    ]

-- ---- where it could be changed

abbrev Advances : Change → List Outcome → List Outcome → (ℕ → Option Outcome) → (ℕ → Option Outcome) → ℕ → Type 0
Advances c few left many after id = (q : ℕ) → option_or (among left q) (after q)
    ≡ (if id == q then option_map (next_outcome c) (option_or (among few id) (many id)) else option_or (among few q) (many q))

pub advances_in_list : {E : Type 0} (made : Result (Unit {0}) E) (c : Change) (few left : List Outcome) (many : ℕ → Option Outcome) (id at : ℕ) → position (λ o. o.id == id) few ≡ Some at
    → OnOk made (left ≡ changed_nth (next_outcome c) at few) → OnOk made (Advances c few left many many id)
advances_in_list (Ok _) c few left many id at e changed = λ q. ap (λ l. option_or (among l q) (many q)) changed ∙ advanced_in_list c few many id at q e
advances_in_list (Err _) c few left many id at e changed = tt

pub advances_in_map : {E : Type 0} (made : Result (Unit {0}) E) (c : Change) (few : List Outcome) (many after : ℕ → Option Outcome) (id : ℕ) → position (λ o. o.id == id) few ≡ None
    → OnOk made ((q : ℕ) → after q ≡ (if id == q then option_map (next_outcome c) (many id) else many q)) → OnOk made (Advances c few few many after id)
advances_in_map (Ok _) c few many after id e changed = λ q. advanced_in_map c few many after id q e (changed q)
advances_in_map (Err _) c few many after id e changed = tt
