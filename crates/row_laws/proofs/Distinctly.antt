-- Ids are distinct just where each id has one message at most; and the message of an id after changes.
use Rattle.std.proofs.Common.{◌≡◌, ℕ, List, [], ◌∷◌, Bool, true, false, not, refl, sym, ap, ◌∙◌, None, ◌==◌}
use Rattle.std.specs.Prelude.{find, is_none, fold, option_and_then}
use Rattle.std.specs.List.{list_any}
use Rattle.std.proofs.lemmas.Bool.{eqb-true, eq-eqb, false≢true, and_parts, and_from, not-true, or_parts, or_from, not_from_false}
use Rattle.std.proofs.lemmas.Option.{none-some}
use Rattle.queue_rows.specs.Distinct.{are_distinct}
use Rattle.queue_rows.specs.Valid.{is_same_message}
use Rattle.queue_rows.specs.declared.tables.Tables.{Tables}
use Rattle.queue_rows.specs.declared.rows.MsgRow.{MsgRow}
use Rattle.queue_rows.specs.declared.change.Change.{Change}
use Rattle.queue_rows.specs.Settling.{left_by}
use Rattle.queue_rows.specs.Rows.{find_message}
use Rattle.queue_rows.specs.Tables.{after_change, after_all}
use Rattle.row_laws.specs.RowLaws.{HasDistinctMessages, StaysDistinct, FindsAfterAll, leaves_to_settling, all_leave_to_settling}
use Rattle.row_laws.proofs.Finding.{is_single, none_is, find-yes, find-no, single-yes, single-no, single_if_none}
use Rattle.row_laws.proofs.Messages.{IsSingle, finds_left, stays_single, new_may_be_put, left_may_be_put}

module _ {X : Type 0} (p q : X → Bool) where
  -- nothing is found where no test passes
  none_step : (x : X) (xs : List X) (b : Bool) → p x ≡ b → ((y : X) → p y ≡ true → q y ≡ true) → q x ≡ false → find p xs ≡ None → find p (x ∷ xs) ≡ None
  none_step x xs true e k h ih = absurd (false≢true (sym h ∙ k x e))
  none_step x xs false e k h ih = find-no p x xs e ∙ ih

  pub none_if_no_any : ((y : X) → p y ≡ true → q y ≡ true) → (xs : List X) → list_any q xs ≡ false → find p xs ≡ None
  none_if_no_any k [] h = refl
  none_if_no_any k (x ∷ xs) h =
      let parts = or_parts (q x) (list_any q xs) h in none_step x xs (p x) refl k parts.0 (none_if_no_any k xs parts.1)

  any_step : (x : X) (xs : List X) (b : Bool) → q x ≡ b → ((y : X) → q y ≡ true → p y ≡ true) → find p (x ∷ xs) ≡ None → (find p xs ≡ None → list_any q xs ≡ false) → (c : Bool) → p x ≡ c → list_any q (x ∷ xs) ≡ false
  any_step x xs b e k h ih true g = absurd (none-some x (sym h ∙ find-yes p x xs g))
  any_step x xs true e k h ih false g = absurd (false≢true (sym g ∙ k x e))
  any_step x xs false e k h ih false g = or_from (q x) (list_any q xs) e (ih (sym (find-no p x xs g) ∙ h))

  pub no_any_if_none : ((y : X) → q y ≡ true → p y ≡ true) → (xs : List X) → find p xs ≡ None → list_any q xs ≡ false
  no_any_if_none k [] h = refl
  no_any_if_none k (x ∷ xs) h = any_step x xs (q x) refl k h (no_any_if_none k xs) (p x) refl

-- ---- one message at most, for each id

same_as : (id : ℕ) (x : MsgRow) → (x.id == id) ≡ true → (y : MsgRow) → (y.id == id) ≡ true → is_same_message x y ≡ true
same_as id x e y h = eq-eqb x.id y.id (eqb-true x.id id e ∙ sym (eqb-true y.id id h))

distinct_step : (id : ℕ) (x : MsgRow) (xs : List MsgRow) (b : Bool) → (x.id == id) ≡ b → list_any (is_same_message x) xs ≡ false → is_single (λ m. m.id == id) xs ≡ true → is_single (λ m. m.id == id) (x ∷ xs) ≡ true
distinct_step id x xs true e h ih = single-yes (λ m. m.id == id) x xs e ∙ ap is_none (none_if_no_any (λ m. m.id == id) (is_same_message x) (same_as id x e) xs h)
distinct_step id x xs false e h ih = single-no (λ m. m.id == id) x xs e ∙ ih

single_in : (ms : List MsgRow) (id : ℕ) → are_distinct is_same_message ms ≡ true → is_single (λ m. m.id == id) ms ≡ true
single_in [] id h = refl
single_in (x ∷ xs) id h =
    let parts = and_parts (not (list_any (is_same_message x) xs)) (are_distinct is_same_message xs) h in
    distinct_step id x xs (x.id == id) refl (not-true (list_any (is_same_message x) xs) parts.0) (single_in xs id parts.1)

pub single_if_distinct : (t : Tables) (id : ℕ) → HasDistinctMessages t → IsSingle t id
single_if_distinct t id h = single_in t.messages id h

tail_step : (id : ℕ) (x : MsgRow) (xs : List MsgRow) (b : Bool) → (x.id == id) ≡ b → is_single (λ m. m.id == id) (x ∷ xs) ≡ true → is_single (λ m. m.id == id) xs ≡ true
tail_step id x xs true e h = single_if_none (λ m. m.id == id) xs (none_is (find (λ m. m.id == id) xs) (sym (single-yes (λ m. m.id == id) x xs e) ∙ h))
tail_step id x xs false e h = sym (single-no (λ m. m.id == id) x xs e) ∙ h

head_apart : (x : MsgRow) (xs : List MsgRow) → is_single (λ m. m.id == x.id) (x ∷ xs) ≡ true → list_any (is_same_message x) xs ≡ false
head_apart x xs h =
    no_any_if_none (λ m. m.id == x.id) (is_same_message x) (λ y e. eq-eqb y.id x.id (sym (eqb-true x.id y.id e))) xs
    (none_is (find (λ m. m.id == x.id) xs) (sym (single-yes (λ m. m.id == x.id) x xs (eq-eqb x.id x.id refl)) ∙ h))

distinct_in : (ms : List MsgRow) → ((id : ℕ) → is_single (λ m. m.id == id) ms ≡ true) → are_distinct is_same_message ms ≡ true
distinct_in [] h = refl
distinct_in (x ∷ xs) h =
    and_from (not (list_any (is_same_message x) xs)) (are_distinct is_same_message xs) (not_from_false (list_any (is_same_message x) xs) (head_apart x xs (h x.id)))
    (distinct_in xs (λ id. tail_step id x xs (x.id == id) refl (h id)))

pub distinct_if_single : (t : Tables) → ((id : ℕ) → IsSingle t id) → HasDistinctMessages t
distinct_if_single t h = distinct_in t.messages h

pub stays_distinct : StaysDistinct
stays_distinct t c h e = distinct_if_single (after_change t c) (λ id. stays_single t c id (single_if_distinct t id h) (new_may_be_put id t c e))

-- ---- a message after changes

-- the fold from any row on
all_left : (cs : List Change) (t : Tables) (id : ℕ) → IsSingle t id → all_leave_to_settling id t cs ≡ true
    → find_message (after_all t cs) id ≡ fold (λ m c. option_and_then (λ row. left_by row c) m) (find_message t id) cs
all_left [] t id s e = refl
all_left (c ∷ cs) t id s e =
    let parts = and_parts (leaves_to_settling id t c) (all_leave_to_settling id (after_change t c) cs) e in
    all_left cs (after_change t c) id (stays_single t c id s (left_may_be_put id t c parts.0)) parts.1
    ∙ ap (λ o. fold (λ m d. option_and_then (λ row. left_by row d) m) o cs) (finds_left t c id s parts.0)

pub finds_after_all : FindsAfterAll
finds_after_all t cs id d e = all_left cs t id (single_if_distinct t id d) e
