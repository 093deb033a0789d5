-- The sessions of states from a number on.
use Rattle.std.proofs.Common.{◌≡◌, ℕ, ◌+◌, ◌≤◌, suc, zero, length, List, [], ◌∷◌, Bool, false, drop, Option, Some, None, refl, ap, sym, ◌∙◌, arith}
use Rattle.std.specs.Prelude.{◌||◌, slice_get}
use Rattle.std.specs.List.{list_any}
use Rattle.std.proofs.lemmas.List.{drop_all}
use Rattle.slot_marks.specs.Marks.{SessionMarks}
use Rattle.queue_rows.specs.Session.{Session}
use Rattle.sessions.specs.declared.state.SessionState.{SessionState}
use Rattle.admin_ops.specs.Shown.{sessions_from, works_at}

first_left : {T : Type 0} (xs : List T) (at : ℕ) (x : T) → slice_get xs at ≡ Some x → drop at xs ≡ x ∷ drop (at + 1) xs
first_left [] at x e = cc e
first_left (y ∷ ys) zero x e = let same : y ≡ x = cc e in ap (λ z. z ∷ ys) same
first_left (y ∷ ys) (suc i) x e = let on : suc (i + 1) ≡ suc i + 1 = omega arith in first_left ys i x e ∙ ap (λ n. x ∷ drop n (y ∷ ys)) on

past_if_none : {T : Type 0} (xs : List T) (at : ℕ) → slice_get xs at ≡ None → length xs ≤ at
past_if_none [] at e = omega arith
past_if_none (x ∷ xs) zero e = cc e
past_if_none (x ∷ xs) (suc i) e = let h : length xs ≤ i = past_if_none xs i e in omega arith

module _ (works : Session → Bool) (locks : List SessionMarks) (states : List SessionState) where
  -- one of the sessions from a number on works
  abbrev pub works_from : ℕ → Bool
  works_from number = list_any works (sessions_from number locks (drop number states))

  -- it is the first of them, or one behind it
  pub next_works : (number : ℕ) → works_from number ≡ (works_at works locks (slice_get states number) number || works_from (number + 1))
  next_works number = by (slice_get states number) refl
    where
      by : (o : Option SessionState) → slice_get states number ≡ o → works_from number ≡ (works_at works locks o number || works_from (number + 1))
      by (Some x) e = ap (λ xs. list_any works (sessions_from number locks xs)) (first_left states number x e)
      by None e =
          let past : length states ≤ number = past_if_none states number e in
          ap (λ xs. list_any works (sessions_from number locks xs)) (drop_all number states past)
          ∙ sym (ap (λ xs. list_any works (sessions_from (number + 1) locks xs)) (drop_all (number + 1) states (omega arith)))

  -- behind the last one there is none
  pub none_works : (number : ℕ) → length states ≤ number → works_from number ≡ false
  none_works number past = ap (λ xs. list_any works (sessions_from number locks xs)) (drop_all number states past)
