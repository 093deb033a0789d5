-- What holds of each row holds of the one that is found, and of each where a row is changed; and how all rows are changed one
-- by one.
use Rattle.std.proofs.Common.{◌≡◌, ℕ, List, [], ◌∷◌, ◌++◌, Bool, All, inl, inr, IfSome, suc, zero, Option, Some, None, map, take, drop, refl, ap, ◌∙◌}
use Rattle.std.specs.Prelude.{find, position, slice_get}
use Rattle.std.proofs.lemmas.Bool.{cases_Bool}
use Rattle.std.proofs.lemmas.List.Elements.{All-head, All-set, All-tail}
use Rattle.queue_rows.specs.Rows.{set_some, changed_some, changed_nth, changed_at, changed_first}

module _ {X : Type 0} where
  pub found_each : (P : X → Type 0) (test : X → Bool) (xs : List X) → All P xs → IfSome (find test xs) P
  found_each P test [] all = tt
  found_each P test (x ∷ xs) all = elim (cases_Bool (test x)) [
    | inl here ↦ rw here (All-head P x xs all)
    | inr elsewhere ↦ rw elsewhere (found_each P test xs (All-tail P x xs all))
  ]

  pub got_each : (P : X → Type 0) (xs : List X) (i : ℕ) → All P xs → IfSome (slice_get xs i) P
  got_each P [] i all = tt
  got_each P (x ∷ xs) zero all = All-head P x xs all
  got_each P (x ∷ xs) (suc i) all = got_each P xs i (All-tail P x xs all)

  some_each : (P : X → Type 0) (f : X → X) (xs : List X) (i : ℕ) (found : Option X) → ((x : X) → P x → P (f x)) → IfSome found P → All P xs → All P (set_some xs i (changed_some f found))
  some_each P f xs i None keeps one all = all
  some_each P f xs i (Some x) keeps one all = All-set P xs i (f x) (keeps x one) all

  pub nth_each : (P : X → Type 0) (f : X → X) (i : ℕ) (xs : List X) → ((x : X) → P x → P (f x)) → All P xs → All P (changed_nth f i xs)
  nth_each P f i xs keeps all = some_each P f xs i (slice_get xs i) keeps (got_each P xs i all) all

  pub at_each : (P : X → Type 0) (f : X → X) (at : Option ℕ) (xs : List X) → ((x : X) → P x → P (f x)) → All P xs → All P (changed_at f at xs)
  at_each P f None xs keeps all = all
  at_each P f (Some i) xs keeps all = nth_each P f i xs keeps all

  pub first_each : (P : X → Type 0) (is_it : X → Bool) (f : X → X) (xs : List X) → ((x : X) → P x → P (f x)) → All P xs → All P (changed_first is_it f xs)
  first_each P is_it f xs keeps all = at_each P f (position is_it xs) xs keeps all

  -- ---- from the last row to the first

  some_behind : (x : X) (xs : List X) (i : ℕ) (o : Option X) → set_some (x ∷ xs) (suc i) o ≡ x ∷ set_some xs i o
  some_behind x xs i None = refl
  some_behind x xs i (Some y) = refl

  one_more : (f : X → X) (i : ℕ) (xs : List X) → map f (take i (changed_nth f i xs)) ++ drop i (changed_nth f i xs) ≡ map f (take (suc i) xs) ++ drop (suc i) xs
  one_more f zero [] = refl
  one_more f (suc i) [] = refl
  one_more f zero (x ∷ xs) = refl
  one_more f (suc i) (x ∷ xs) =
      ap (λ ys. map f (take (suc i) ys) ++ drop (suc i) ys) (some_behind x xs i (changed_some f (slice_get xs i)))
      ∙ ap (λ ys. f x ∷ ys) (one_more f i xs)

  pub step_down : (f : X → X) (at next : ℕ) (xs ys all : List X) → suc next ≡ at → ys ≡ changed_nth f next xs → map f (take at xs) ++ drop at xs ≡ all → map f (take next ys) ++ drop next ys ≡ all
  step_down f at next xs ys all less changed before =
      ap (λ zs. map f (take next zs) ++ drop next zs) changed
      ∙ one_more f next xs
      ∙ ap (λ n. map f (take n xs) ++ drop n xs) less
      ∙ before
