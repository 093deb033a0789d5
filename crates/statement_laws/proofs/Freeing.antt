-- A slot that no other session holds is free, and stays so when it is marked.
use Rattle.std.proofs.Common.{◌≡◌, ◌+◌, ◌⊎◌, inl, inr, ℕ, zero, suc, List, [], ◌∷◌, ◌++◌, Bool, true, false, not, refl, sym, ap, ◌∙◌, arith, Option, Some, None, ◌==◌, ◌&&◌, ◌||◌}
use Rattle.std.specs.Prelude.{slice_get, map, filter, if◌then◌else◌}
use Rattle.std.specs.List.{list_any}
use Rattle.std.specs.Option.{option_or}
use Rattle.std.proofs.lemmas.Bool.{and_parts, or_parts, or_from, or_left, or_right, or_cases, not_from_false, eqb-true, false≢true}
use Rattle.std.proofs.lemmas.Option.{none-some}
use Rattle.aq_base.specs.declared.DbId.{DbId}
use Rattle.slot_marks.specs.Marks.{is_on, has_slot, kept_beside, taken}
use Rattle.slot_marks.specs.declared.mark.Group.{Group}
use Rattle.slot_marks.specs.declared.mark.Mark.{Mark}
use Rattle.queue_rows.specs.Commits.{commit_of}
use Rattle.queue_rows.specs.Session.{Session, is_same_db, marks_slot, marks_group, holds, is_held, is_held_from, holder, marker_from, without_mark}
use Rattle.queue_rows.specs.declared.tables.Tables.{Tables}
use Rattle.queue_rows.specs.declared.session.Pending.TheVariants.{Remove}
use Rattle.queue_rows.specs.declared.change.Change.{Change}
use Rattle.row_laws.proofs.Finding.{filter-yes, filter-no}
use Rattle.valid_laws.specs.Openness.{is_open_at}
use Rattle.valid_laws.specs.Touching.{is_of_slot}
use Rattle.statement_laws.specs.Sessions.{IsFreeOf}
use Rattle.statement_laws.proofs.Among.{any_last}
use Rattle.statement_laws.proofs.Naming.{commit_names}

-- ---- held by no other

-- three tests joined of which two pass
third : (a b c : Bool) → a ≡ true → b ≡ true → (a && b && c) ≡ false → c ≡ false
third true true c e g h = h
third true false c e g h = absurd (false≢true g)
third false b c e g h = absurd (false≢true e)

no_slot : (id slot : ℕ) (group : Option Group) (marks : List Mark) → list_any (holds id slot group) marks ≡ false → list_any (marks_slot id slot) marks ≡ false
no_slot id slot group [] h = refl
no_slot id slot group (mark ∷ marks) h =
    let p = or_parts (marks_slot id slot mark || marks_group group mark) (list_any (holds id slot group) marks) h in
    let q = or_parts (marks_slot id slot mark) (marks_group group mark) p.0 in
    or_from (marks_slot id slot mark) (list_any (marks_slot id slot) marks) q.0 (no_slot id slot group marks p.1)

free_from : (number actor : ℕ) (db : DbId) (id slot : ℕ) (group : Option Group) (sessions : List Session) → is_held_from number actor db id slot group sessions ≡ false
    → (j : ℕ) (b : Session) → slice_get sessions j ≡ Some b → is_same_db b.at db ≡ true → (number + j == actor) ≡ false → list_any (marks_slot id slot) b.marks ≡ false
free_from number actor db id slot group [] h j b e f d = absurd (none-some b e)
free_from number actor db id slot group (s ∷ more) h zero b e f d =
    let p = or_parts (not (number == actor) && is_same_db s.at db && list_any (holds id slot group) s.marks) (is_held_from (number + 1) actor db id slot group more) h in
    let same : s ≡ b = (let a : Some s ≡ Some b = e in cc) in
    let here : number + 0 ≡ number = omega arith in
    let other : (number == actor) ≡ false = ap (λ n. n == actor) (sym here) ∙ d in
    let none = third (not (number == actor)) (is_same_db s.at db) (list_any (holds id slot group) s.marks) (not_from_false (number == actor) other) (ap (λ y. is_same_db y.at db) same ∙ f) p.0 in
    ap (λ y. list_any (marks_slot id slot) y.marks) (sym same) ∙ no_slot id slot group s.marks none
free_from number actor db id slot group (s ∷ more) h (suc j) b e f d =
    let p = or_parts (not (number == actor) && is_same_db s.at db && list_any (holds id slot group) s.marks) (is_held_from (number + 1) actor db id slot group more) h in
    let here : number + 1 + j ≡ number + suc j = omega arith in
    free_from (number + 1) actor db id slot group more p.1 j b e f (ap (λ n. n == actor) here ∙ d)

pub free_if_unheld : (sessions : List Session) (actor : ℕ) (db : DbId) (id slot : ℕ) (group : Option Group) → is_held sessions actor db id slot group ≡ false → IsFreeOf sessions actor db id slot
free_if_unheld sessions actor db id slot group h j b e f d = let here : 0 + j ≡ j = omega arith in free_from 0 actor db id slot group sessions h j b e f (ap (λ n. n == actor) here ∙ d)

marked_by : (number actor : ℕ) (db : DbId) (is_it : Mark → Bool) (s : Session) (more : List Session) (t : Bool) → (not (number == actor) && is_same_db s.at db && list_any is_it s.marks) ≡ t
    → (if t then Some number else marker_from (number + 1) actor db is_it more) ≡ None → (t ≡ false) × (marker_from (number + 1) actor db is_it more ≡ None)
marked_by number actor db is_it s more true e h = absurd (none-some number (sym h))
marked_by number actor db is_it s more false e h = (refl, h)

unmarked_from : (number actor : ℕ) (db : DbId) (is_it : Mark → Bool) (sessions : List Session) → marker_from number actor db is_it sessions ≡ None
    → (j : ℕ) (b : Session) → slice_get sessions j ≡ Some b → is_same_db b.at db ≡ true → (number + j == actor) ≡ false → list_any is_it b.marks ≡ false
unmarked_from number actor db is_it [] h j b e f d = absurd (none-some b e)
unmarked_from number actor db is_it (s ∷ more) h zero b e f d =
    let p = marked_by number actor db is_it s more (not (number == actor) && is_same_db s.at db && list_any is_it s.marks) refl h in
    let same : s ≡ b = (let a : Some s ≡ Some b = e in cc) in
    let here : number + 0 ≡ number = omega arith in
    let other : (number == actor) ≡ false = ap (λ n. n == actor) (sym here) ∙ d in
    ap (λ y. list_any is_it y.marks) (sym same) ∙ third (not (number == actor)) (is_same_db s.at db) (list_any is_it s.marks) (not_from_false (number == actor) other) (ap (λ y. is_same_db y.at db) same ∙ f) p.0
unmarked_from number actor db is_it (s ∷ more) h (suc j) b e f d =
    let p = marked_by number actor db is_it s more (not (number == actor) && is_same_db s.at db && list_any is_it s.marks) refl h in
    let here : number + 1 + j ≡ number + suc j = omega arith in
    unmarked_from (number + 1) actor db is_it more p.1 j b e f (ap (λ n. n == actor) here ∙ d)

first_none : (a b : Option ℕ) → option_or a b ≡ None → a ≡ None
first_none None b h = refl
first_none (Some n) b h = h

pub free_if_no_holder : (sessions : List Session) (actor : ℕ) (db : DbId) (id slot : ℕ) (group : Option Group) → holder sessions actor db id slot group ≡ None → IsFreeOf sessions actor db id slot
free_if_no_holder sessions actor db id slot group h j b e f d =
    let here : 0 + j ≡ j = omega arith in
    unmarked_from 0 actor db (marks_slot id slot) sessions (first_none (marker_from 0 actor db (marks_slot id slot) sessions) (marker_from 0 actor db (marks_group group) sessions) h) j b e f (ap (λ n. n == actor) here ∙ d)

-- ---- marks

same_slot : (id slot : ℕ) (mark own : Mark) (b : Bool) → marks_slot id slot (if b then record own { removed = own.removed || mark.removed } else own) ≡ marks_slot id slot own
same_slot id slot mark own true = refl
same_slot id slot mark own false = refl

kept_marks : (id slot : ℕ) (mark : Mark) (marks : List Mark) → list_any (marks_slot id slot) (map (kept_beside mark) marks) ≡ list_any (marks_slot id slot) marks
kept_marks id slot mark [] = refl
kept_marks id slot mark (own ∷ marks) =
    ap (λ b. b || list_any (marks_slot id slot) (map (kept_beside mark) marks)) (same_slot id slot mark own (is_on mark.id mark.slot own)) ∙ ap (λ b. marks_slot id slot own || b) (kept_marks id slot mark marks)

taken_by : (id slot : ℕ) (mark : Mark) (marks : List Mark) (b : Bool) → list_any (marks_slot id slot) (if b then map (kept_beside mark) marks else marks ++ mark ∷ []) ≡ true → (list_any (marks_slot id slot) marks ≡ true) ⊎ (marks_slot id slot mark ≡ true)
taken_by id slot mark marks true h = inl (sym (kept_marks id slot mark marks) ∙ h)
taken_by id slot mark marks false h = or_cases (list_any (marks_slot id slot) marks) (marks_slot id slot mark) (sym (any_last (marks_slot id slot) marks mark) ∙ h)

-- what is marked then was marked before, or is the slot that is taken
pub taken_marks : (id slot : ℕ) (mark : Mark) (marks : List Mark) → list_any (marks_slot id slot) (taken marks mark) ≡ true → (list_any (marks_slot id slot) marks ≡ true) ⊎ (marks_slot id slot mark ≡ true)
taken_marks id slot mark marks h = taken_by id slot mark marks (has_slot mark.id mark.slot marks) h

module _ (q p : Mark → Bool) where
  kept_true_step : (x : Mark) (xs : List Mark) (b : Bool) → q x ≡ b → list_any p (filter q (x ∷ xs)) ≡ true → (list_any p (filter q xs) ≡ true → list_any p xs ≡ true) → list_any p (x ∷ xs) ≡ true
  kept_true_step x xs true e h ih = by (or_cases (p x) (list_any p (filter q xs)) (sym (ap (list_any p) (filter-yes q q x xs e)) ∙ h))
    where
      by : (p x ≡ true) ⊎ (list_any p (filter q xs) ≡ true) → list_any p (x ∷ xs) ≡ true
      by (inl k) = or_left (p x) (list_any p xs) k
      by (inr k) = or_right (p x) (list_any p xs) (ih k)
  kept_true_step x xs false e h ih = or_right (p x) (list_any p xs) (ih (sym (ap (list_any p) (filter-no q q x xs e)) ∙ h))

  kept_true : (xs : List Mark) → list_any p (filter q xs) ≡ true → list_any p xs ≡ true
  kept_true [] h = h
  kept_true (x ∷ xs) h = kept_true_step x xs (q x) refl h (kept_true xs)

  none_kept_step : ((x : Mark) → q x ≡ true → p x ≡ false) → (x : Mark) (xs : List Mark) (b : Bool) → q x ≡ b → list_any p (filter q xs) ≡ false → list_any p (filter q (x ∷ xs)) ≡ false
  none_kept_step k x xs true e ih = ap (list_any p) (filter-yes q q x xs e) ∙ or_from (p x) (list_any p (filter q xs)) (k x e) ih
  none_kept_step k x xs false e ih = ap (list_any p) (filter-no q q x xs e) ∙ ih

  none_kept : ((x : Mark) → q x ≡ true → p x ≡ false) → (xs : List Mark) → list_any p (filter q xs) ≡ false
  none_kept k [] = refl
  none_kept k (x ∷ xs) = none_kept_step k x xs (q x) refl (none_kept k xs)

pub without_marks : (id slot other behind : ℕ) (marks : List Mark) → list_any (marks_slot other behind) (without_mark id slot marks) ≡ true → list_any (marks_slot other behind) marks ≡ true
without_marks id slot other behind marks h = kept_true (λ mark. not (marks_slot id slot mark)) (marks_slot other behind) marks h

pub without_itself : (id slot : ℕ) (marks : List Mark) → list_any (marks_slot id slot) (without_mark id slot marks) ≡ false
without_itself id slot marks = none_kept (λ mark. not (marks_slot id slot mark)) (marks_slot id slot) (λ x e. not_yes (marks_slot id slot x) e) marks
  where
    not_yes : (b : Bool) → not b ≡ true → b ≡ false
    not_yes true e = absurd (false≢true e)
    not_yes false e = refl

-- ---- what a dequeue marks and takes

-- what the session has marked then it had marked before, or no other one has; and what is committed names slots that none has marked
pub record TakesFree (t : Tables) (sessions : List Session) (actor : ℕ) (s : Session) (cs : List Change) (after : Session) : Type 0 where
  pub marked : (id slot : ℕ) → list_any (marks_slot id slot) after.marks ≡ true → (list_any (marks_slot id slot) s.marks ≡ true) ⊎ (IsFreeOf sessions actor s.at id slot × (is_open_at t id slot ≡ true))
  pub named : (id slot : ℕ) → list_any (is_of_slot id slot) cs ≡ true → IsFreeOf sessions actor s.at id slot × (list_any (marks_slot id slot) after.marks ≡ false)

named_by : (t : Tables) (moment id slot n a : ℕ) (b : Bool) → ((id == n) && (slot == a)) ≡ b → list_any (is_of_slot n a) (commit_of t moment (Remove id slot ∷ [])) ≡ true → b ≡ true
named_by t moment id slot n a true e h = refl
named_by t moment id slot n a false e h = absurd (false≢true (sym (commit_names n a t moment (Remove id slot ∷ []) (or_from ((id == n) && (slot == a)) false e refl)) ∙ h))

-- a removal at once names its slot alone
pub removal_names : (t : Tables) (moment id slot n a : ℕ) → list_any (is_of_slot n a) (commit_of t moment (Remove id slot ∷ [])) ≡ true → (id ≡ n) × (slot ≡ a)
removal_names t moment id slot n a h =
    let p = and_parts (id == n) (slot == a) (named_by t moment id slot n a ((id == n) && (slot == a)) refl h) in (eqb-true id n p.0, eqb-true slot a p.1)
