-- What holds of each item of a list holds of each after an edit.
use Rattle.std.proofs.Common.{◌≡◌, ℕ, zero, suc, Bool, true, false, cond, List, [], ◌∷◌, ◌++◌, filter, remove, refl, subst, Option, Some, None, Result, Ok, Err}
use Rattle.std.specs.Prelude.{flat_map, find, slice_get, slice_set, position}
use Rattle.std.specs.List.{AllByRecursion, cons_option, filter_map}
use Rattle.std.specs.Option.{IfSome}
use Rattle.std.proofs.lemmas.Option.{none-some, same_Some}
use Rattle.queue_rows.specs.Rows.{put_at, put_by, set_some, changed_some, changed_at, changed_first, removed_at, removed_first}

-- ---- answers

pub same_ok : {X Y : Type 0} (r : Result X Y) (x y : X) → r ≡ Ok x → r ≡ Ok y → x ≡ y
same_ok r x y d e = cc

pub not_both : {X Y Z : Type 0} (r : Result X Y) (x : X) (y : Y) → r ≡ Ok x → r ≡ Err y → Z
not_both r x y d e = cc

-- ---- lists

module _ {T : Type 0} (P : T → Type 0) where
  -- ---- lists that are put together

  pub each_append : (xs ys : List T) → AllByRecursion P xs → AllByRecursion P ys → AllByRecursion P (xs ++ ys)
  each_append [] ys h k = k
  each_append (x ∷ xs) ys h k = (h.0, each_append xs ys h.1 k)

  pub each_last : (xs : List T) (x : T) → AllByRecursion P xs → P x → AllByRecursion P (xs ++ x ∷ [])
  each_last xs x h k = each_append xs (x ∷ []) h (k, tt)

  pub each_flat : {S : Type 0} (F : S → List T) → ((s : S) → AllByRecursion P (F s)) → (ss : List S) → AllByRecursion P (flat_map F ss)
  each_flat F h [] = tt
  each_flat F h (s ∷ ss) = each_append (F s) (flat_map F ss) (h s) (each_flat F h ss)

  pub each_cons : (o : Option T) (xs : List T) → IfSome o P → AllByRecursion P xs → AllByRecursion P (cons_option o xs)
  each_cons None xs h k = k
  each_cons (Some x) xs h k = (h, k)

  pub each_found : {S : Type 0} (f : S → Option T) → ((s : S) → IfSome (f s) P) → (ss : List S) → AllByRecursion P (filter_map f ss)
  each_found f h [] = tt
  each_found f h (s ∷ ss) = each_cons (f s) (filter_map f ss) (h s) (each_found f h ss)

  pub each_if : (b : Bool) (xs ys : List T) → AllByRecursion P xs → AllByRecursion P ys → AllByRecursion P (cond b xs ys)
  each_if true xs ys h k = h
  each_if false xs ys h k = k

  -- ---- rows that are put and taken away

  each_set : (xs : List T) (i : ℕ) (x : T) → AllByRecursion P xs → P x → AllByRecursion P (slice_set xs i x)
  each_set [] i x h k = tt
  each_set (y ∷ ys) zero x h k = (k, h.1)
  each_set (y ∷ ys) (suc i) x h k = (h.0, each_set ys i x h.1 k)

  each_put_at : (x : T) (xs : List T) (at : Option ℕ) → AllByRecursion P xs → P x → AllByRecursion P (put_at x xs at)
  each_put_at x xs None h k = each_last xs x h k
  each_put_at x xs (Some i) h k = each_set xs i x h k

  pub each_put : (is_same : T → T → Bool) (x : T) (xs : List T) → AllByRecursion P xs → P x → AllByRecursion P (put_by is_same x xs)
  each_put is_same x xs h k = each_put_at x xs (position (λ r. is_same r x) xs) h k

  each_removed : (xs : List T) (i : ℕ) → AllByRecursion P xs → AllByRecursion P (remove xs i)
  each_removed [] zero h = tt
  each_removed [] (suc i) h = tt
  each_removed (y ∷ ys) zero h = h.1
  each_removed (y ∷ ys) (suc i) h = (h.0, each_removed ys i h.1)

  each_removed_at : (xs : List T) (at : Option ℕ) → AllByRecursion P xs → AllByRecursion P (removed_at xs at)
  each_removed_at xs None h = h
  each_removed_at xs (Some i) h = each_removed xs i h

  pub each_without : (is_it : T → Bool) (xs : List T) → AllByRecursion P xs → AllByRecursion P (removed_first is_it xs)
  each_without is_it xs h = each_removed_at xs (position is_it xs) h

  pub each_kept : (p : T → Bool) (xs : List T) → AllByRecursion P xs → AllByRecursion P (filter p xs)
  each_kept p [] h = tt
  each_kept p (x ∷ xs) h = each_if (p x) (x ∷ filter p xs) (filter p xs) (h.0, each_kept p xs h.1) (each_kept p xs h.1)

  -- ---- rows that are found and changed

  each_at : (xs : List T) (i : ℕ) (x : T) → AllByRecursion P xs → slice_get xs i ≡ Some x → P x
  each_at [] i x h e = absurd (none-some x e)
  each_at (y ∷ ys) zero x h e = subst P (same_Some y x e) h.0
  each_at (y ∷ ys) (suc i) x h e = each_at ys i x h.1 e

  found_step : (p : T → Bool) (y : T) (ys : List T) (x : T) (b : Bool) → p y ≡ b → AllByRecursion P (y ∷ ys) → find p (y ∷ ys) ≡ Some x → (AllByRecursion P ys → find p ys ≡ Some x → P x) → P x
  found_step p y ys x true g h e ih = let s : Some y ≡ Some x = rw g at e in subst P (same_Some y x s) h.0
  found_step p y ys x false g h e ih = ih h.1 (rw g at e)

  pub each_of_found : (p : T → Bool) (xs : List T) (x : T) → AllByRecursion P xs → find p xs ≡ Some x → P x
  each_of_found p [] x h e = absurd (none-some x e)
  each_of_found p (y ∷ ys) x h e = found_step p y ys x (p y) refl h e (λ k f. each_of_found p ys x k f)

  each_set_some : (f : T → T) → ((x : T) → P x → P (f x)) → (xs : List T) (i : ℕ) → AllByRecursion P xs → (found : Option T) → slice_get xs i ≡ found → AllByRecursion P (set_some xs i (changed_some f found))
  each_set_some f keeps xs i h None e = h
  each_set_some f keeps xs i h (Some x) e = each_set xs i (f x) h (keeps x (each_at xs i x h e))

  each_changed_at : (f : T → T) → ((x : T) → P x → P (f x)) → (xs : List T) (at : Option ℕ) → AllByRecursion P xs → AllByRecursion P (changed_at f at xs)
  each_changed_at f keeps xs None h = h
  each_changed_at f keeps xs (Some i) h = each_set_some f keeps xs i h (slice_get xs i) refl

  pub each_changed : (is_it : T → Bool) (f : T → T) → ((x : T) → P x → P (f x)) → (xs : List T) → AllByRecursion P xs → AllByRecursion P (changed_first is_it f xs)
  each_changed is_it f keeps xs h = each_changed_at f keeps xs (position is_it xs) h
