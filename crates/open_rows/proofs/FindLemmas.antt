-- What is found by a test, and where it stands.
use Rattle.std.proofs.Common.{◌≡◌, ℕ, ◌≤◌, List, [], ◌∷◌, length, Bool, true, false, cond, Option, Some, None, ap, ◌∙◌, nat_lt, refl}
use Rattle.std.specs.Prelude.{find, position, slice_get}
use Rattle.std.specs.List.{position_or_len}
use Rattle.std.proofs.lemmas.Bool.{ltb-false}
use Rattle.std.proofs.lemmas.List.Folds.{find_at}
use Rattle.std.proofs.lemmas.Option.{slice_get_past}

place_is : (b : Bool) (n i : ℕ) → cond b (Some n) None ≡ Some i → n ≡ i
place_is true n i e = cc
place_is false n i e = cc

module _ {X : Type 0} where
  found_at : (p : X → Bool) (b : Bool) (x y : X) (otherwise : Option X) → p x ≡ b → (otherwise ≡ Some y → p y ≡ true) → cond b (Some x) otherwise ≡ Some y → p y ≡ true
  found_at p true x y otherwise is more e = ap p (cc) ∙ is
  found_at p false x y otherwise is more e = more e

  -- what is found passes the test
  pub find-passes : (p : X → Bool) (xs : List X) (y : X) → find p xs ≡ Some y → p y ≡ true
  find-passes p [] y e = cc
  find-passes p (x ∷ xs) y e = found_at p (p x) x y (find p xs) refl (find-passes p xs y) e

  -- what is found stands at its position
  pub find-at_position : (p : X → Bool) (xs : List X) (i : ℕ) → position p xs ≡ Some i → find p xs ≡ slice_get xs i
  find-at_position p xs i e = find_at p xs ∙ ap (slice_get xs) (place_is (nat_lt (position_or_len p xs) (length xs)) (position_or_len p xs) i e)

  no_place : (p : X → Bool) (xs : List X) (b : Bool) → nat_lt (position_or_len p xs) (length xs) ≡ b → cond b (Some (position_or_len p xs)) None ≡ None → find p xs ≡ None
  no_place p xs true is e = cc
  no_place p xs false is e =
      let past : length xs ≤ position_or_len p xs = ltb-false (position_or_len p xs) (length xs) is in
      find_at p xs ∙ slice_get_past xs (position_or_len p xs) past

  -- where there is no position, nothing is found
  pub find-no_position : (p : X → Bool) (xs : List X) → position p xs ≡ None → find p xs ≡ None
  find-no_position p xs e = no_place p xs (nat_lt (position_or_len p xs) (length xs)) refl e
