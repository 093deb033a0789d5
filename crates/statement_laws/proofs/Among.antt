-- What holds of each item of a list, and of what a meaning answers.
use Rattle.std.proofs.Common.{◌≡◌, List, [], ◌∷◌, ◌++◌, Bool, true, false, not, refl, sym, ap, ◌∙◌, subst, Some, ◌==◌, ◌||◌}
use Rattle.std.specs.Prelude.{find, filter, if◌then◌else◌}
use Rattle.std.specs.List.{list_any}
use Rattle.std.proofs.lemmas.Bool.{cond_both, and_parts, or_parts, eq-eqb, not-true}
use Rattle.queue_rows.specs.Session.{Session}
use Rattle.queue_rows.specs.Meaning.{Meaning, answers, parks}
use Rattle.queue_rows.specs.Distinct.{are_distinct}
use Rattle.queue_rows.specs.Valid.{is_same_message}
use Rattle.queue_rows.specs.declared.rows.MsgRow.{MsgRow}
use Rattle.queue_rows.specs.declared.change.Change.{Change}
use Rattle.queue_rows.specs.declared.reply.Reply.{Reply}
use Rattle.row_laws.proofs.Finding.{find-yes, find-no, filter-yes, filter-no}

-- ---- meanings

-- it is so of what is answered; who waits is answered nothing
abbrev pub Says : (Reply → List Change → Session → Type 0) → Meaning → Type 0
Says P (answers reply cs after) = P reply cs after
Says P (parks since) = Unit {0}

module _ (P : Reply → List Change → Session → Type 0) where
  pub says_if : (b : Bool) (x y : Meaning) → (b ≡ true → Says P x) → (b ≡ false → Says P y) → Says P (if b then x else y)
  says_if b x y p q = cond_both b x y (Says P) p q

  pub says_so : (x : Meaning) (reply : Reply) (cs : List Change) (after : Session) → Says P x → x ≡ answers reply cs after → P reply cs after
  says_so x reply cs after h e = subst (Says P) e h

-- ---- each item

module _ {X : Type 0} where
  abbrev pub Each : (X → Type 0) → List X → Type 0
  Each Q [] = Unit {0}
  Each Q (x ∷ xs) = Q x × Each Q xs

  pub each_map : (P Q : X → Type 0) → ((x : X) → P x → Q x) → (xs : List X) → Each P xs → Each Q xs
  each_map P Q f [] h = tt
  each_map P Q f (x ∷ xs) h = (f x h.0, each_map P Q f xs h.1)

  pub each_both : (P R Q : X → Type 0) → ((x : X) → P x → R x → Q x) → (xs : List X) → Each P xs → Each R xs → Each Q xs
  each_both P R Q f [] h k = tt
  each_both P R Q f (x ∷ xs) h k = (f x h.0 k.0, each_both P R Q f xs h.1 k.1)

  filter_step : (Q : X → Type 0) (p : X → Bool) (x : X) (xs : List X) (b : Bool) → p x ≡ b → Q x → Each (λ y. (p y ≡ true) × Q y) (filter p xs) → Each (λ y. (p y ≡ true) × Q y) (filter p (x ∷ xs))
  filter_step Q p x xs true e h ih = subst (Each (λ y. (p y ≡ true) × Q y)) (sym (filter-yes p p x xs e)) ((e, h), ih)
  filter_step Q p x xs false e h ih = subst (Each (λ y. (p y ≡ true) × Q y)) (sym (filter-no p p x xs e)) ih

  pub each_filtered : (Q : X → Type 0) (p : X → Bool) (xs : List X) → Each Q xs → Each (λ y. (p y ≡ true) × Q y) (filter p xs)
  each_filtered Q p [] h = tt
  each_filtered Q p (x ∷ xs) h = filter_step Q p x xs (p x) refl h.0 (each_filtered Q p xs h.1)

  pub each_filter : (Q : X → Type 0) (p : X → Bool) (xs : List X) → Each Q xs → Each Q (filter p xs)
  each_filter Q p xs h = each_map (λ y. (p y ≡ true) × Q y) Q (λ x k. k.1) (filter p xs) (each_filtered Q p xs h)

  pub each_not : (p : X → Bool) (xs : List X) → list_any p xs ≡ false → Each (λ y. p y ≡ false) xs
  each_not p [] h = tt
  each_not p (x ∷ xs) h = let parts = or_parts (p x) (list_any p xs) h in (parts.0, each_not p xs parts.1)

  pub any_last : (p : X → Bool) (xs : List X) (y : X) → list_any p (xs ++ y ∷ []) ≡ (list_any p xs || p y)
  any_last p [] y = or_none (p y)
    where
      or_none : (b : Bool) → (b || false) ≡ b
      or_none true = refl
      or_none false = refl
  any_last p (x ∷ xs) y = ap (λ b. p x || b) (any_last p xs y) ∙ or_apart (p x) (list_any p xs) (p y)
    where
      or_apart : (a b c : Bool) → (a || (b || c)) ≡ ((a || b) || c)
      or_apart true b c = refl
      or_apart false b c = refl

-- ---- messages with distinct ids

abbrev pub IsFoundIn : List MsgRow → MsgRow → Type 0
IsFoundIn ms m = find (λ r. r.id == m.id) ms ≡ Some m

behind_other : (x : MsgRow) (xs : List MsgRow) (y : MsgRow) → is_same_message x y ≡ false → IsFoundIn xs y → IsFoundIn (x ∷ xs) y
behind_other x xs y d h = find-no (λ r. r.id == y.id) x xs d ∙ h

pub each_found : (ms : List MsgRow) → are_distinct is_same_message ms ≡ true → Each (IsFoundIn ms) ms
each_found [] h = tt
each_found (x ∷ xs) h =
    let parts = and_parts (not (list_any (is_same_message x) xs)) (are_distinct is_same_message xs) h in (
      find-yes (λ r. r.id == x.id) x xs (eq-eqb x.id x.id refl),
      each_both (λ y. is_same_message x y ≡ false) (IsFoundIn xs) (IsFoundIn (x ∷ xs)) (behind_other x xs) xs
          (each_not (is_same_message x) xs (not-true (list_any (is_same_message x) xs) parts.0)) (each_found xs parts.1),
    )
