-- What holds of each item of a list holds of each after an edit.
use Rattle.std.proofs.Common.{◌≡◌, ℕ, zero, suc, Bool, true, false, cond, List, [], ◌∷◌, ◌++◌, filter, remove, Option, Some, None, refl, ap, ◌∙◌, subst}
use Rattle.std.proofs.lemmas.Option.{none-some, same_Some}
use Rattle.std.specs.Prelude.{◌&&◌, find, slice_get, slice_set, position}
use Rattle.std.specs.List.{AllByRecursion, list_all}
use Rattle.queue_rows.specs.Rows.{put_at, put_by, set_some, changed_some, changed_at, changed_first, changed_nth, removed_at, removed_first}

pub both : (a b : Bool) → (a && b) ≡ true → (a ≡ true) × (b ≡ true)
both true b h = (refl, h)
both false b h = cc

-- ---- as a test

pub all_pass : {T : Type 0} (p : T → Bool) (xs : List T) → AllByRecursion (λ x. p x ≡ true) xs → list_all p xs ≡ true
all_pass p [] h = refl
all_pass p (x ∷ xs) h = ap (λ b. b && list_all p xs) h.0 ∙ all_pass p xs h.1

pub each_passes : {T : Type 0} (p : T → Bool) (xs : List T) → list_all p xs ≡ true → AllByRecursion (λ x. p x ≡ true) xs
each_passes p [] h = tt
each_passes p (x ∷ xs) h = let e = both (p x) (list_all p xs) h in (e.0, each_passes p xs e.1)

-- ---- as what is known of each

pub all_weaker : {T : Type 0} (P Q : T → Type 0) → ((x : T) → P x → Q x) → (xs : List T) → AllByRecursion P xs → AllByRecursion Q xs
all_weaker P Q weaken [] h = tt
all_weaker P Q weaken (x ∷ xs) h = (weaken x h.0, all_weaker P Q weaken xs h.1)

-- ---- edits

module _ {T : Type 0} (P : T → Type 0) where
  all_at : (xs : List T) (i : ℕ) (x : T) → AllByRecursion P xs → slice_get xs i ≡ Some x → P x
  all_at [] i x h e = absurd (none-some x e)
  all_at (y ∷ ys) zero x h e = subst P (same_Some y x e) h.0
  all_at (y ∷ ys) (suc i) x h e = all_at ys i x h.1 e

  pub all_last : (xs : List T) (x : T) → AllByRecursion P xs → P x → AllByRecursion P (xs ++ x ∷ [])
  all_last [] x h k = (k, tt)
  all_last (y ∷ ys) x h k = (h.0, all_last ys x h.1 k)

  all_removed : (xs : List T) (i : ℕ) → AllByRecursion P xs → AllByRecursion P (remove xs i)
  all_removed [] zero h = tt
  all_removed [] (suc i) h = tt
  all_removed (y ∷ ys) zero h = h.1
  all_removed (y ∷ ys) (suc i) h = (h.0, all_removed ys i h.1)

  all_set : (xs : List T) (i : ℕ) (x : T) → AllByRecursion P xs → P x → AllByRecursion P (slice_set xs i x)
  all_set [] i x h k = tt
  all_set (y ∷ ys) zero x h k = (k, h.1)
  all_set (y ∷ ys) (suc i) x h k = (h.0, all_set ys i x h.1 k)

  pub all_kept : (p : T → Bool) (xs : List T) → AllByRecursion P xs → AllByRecursion P (filter p xs)
  all_kept p [] k = tt
  all_kept p (x ∷ xs) k =
      let Q : Bool → Type 0 = λ b. AllByRecursion P (cond b (x ∷ filter p xs) (filter p xs)) in
      elim (p x) as Q [ true ↦ (k.0, all_kept p xs k.1) | false ↦ all_kept p xs k.1 ]

  all_put_at : (x : T) (xs : List T) (at : Option ℕ) → AllByRecursion P xs → P x → AllByRecursion P (put_at x xs at)
  all_put_at x xs None h k = all_last xs x h k
  all_put_at x xs (Some i) h k = all_set xs i x h k

  pub all_put : (is_same : T → T → Bool) (x : T) (xs : List T) → AllByRecursion P xs → P x → AllByRecursion P (put_by is_same x xs)
  all_put is_same x xs h k = all_put_at x xs (position (λ r. is_same r x) xs) h k

  all_removed_at : (xs : List T) (at : Option ℕ) → AllByRecursion P xs → AllByRecursion P (removed_at xs at)
  all_removed_at xs None h = h
  all_removed_at xs (Some i) h = all_removed xs i h

  pub all_without_first : (is_it : T → Bool) (xs : List T) → AllByRecursion P xs → AllByRecursion P (removed_first is_it xs)
  all_without_first is_it xs h = all_removed_at xs (position is_it xs) h

  found_step : (p : T → Bool) (x : T) (xs : List T) (y : T) (b : Bool) → p x ≡ b → P x → (find p xs ≡ Some y → P y) → find p (x ∷ xs) ≡ Some y → P y
  found_step p x xs y true e h rest found = let same : Some x ≡ Some y = rw e at found in subst P (same_Some x y same) h
  found_step p x xs y false e h rest found = rest (rw e at found)

  pub all_found : (p : T → Bool) (xs : List T) (y : T) → AllByRecursion P xs → find p xs ≡ Some y → P y
  all_found p [] y h found = absurd (none-some y found)
  all_found p (x ∷ xs) y h found = found_step p x xs y (p x) refl h.0 (all_found p xs y h.1) found

  all_set_some : (f : T → T) → ((x : T) → P x → P (f x)) → (xs : List T) (i : ℕ) → AllByRecursion P xs → (found : Option T) → slice_get xs i ≡ found
      → AllByRecursion P (set_some xs i (changed_some f found))
  all_set_some f keeps xs i h None e = h
  all_set_some f keeps xs i h (Some x) e = all_set xs i (f x) h (keeps x (all_at xs i x h e))

  pub all_changed_nth : (f : T → T) → ((x : T) → P x → P (f x)) → (xs : List T) (i : ℕ) → AllByRecursion P xs → AllByRecursion P (changed_nth f i xs)
  all_changed_nth f keeps xs i h = all_set_some f keeps xs i h (slice_get xs i) refl

  all_changed_at : (f : T → T) → ((x : T) → P x → P (f x)) → (xs : List T) (at : Option ℕ) → AllByRecursion P xs → AllByRecursion P (changed_at f at xs)
  all_changed_at f keeps xs None h = h
  all_changed_at f keeps xs (Some i) h = all_changed_nth f keeps xs i h

  pub all_changed : (is_it : T → Bool) (f : T → T) → ((x : T) → P x → P (f x)) → (xs : List T) → AllByRecursion P xs → AllByRecursion P (changed_first is_it f xs)
  all_changed is_it f keeps xs h = all_changed_at f keeps xs (position is_it xs) h
