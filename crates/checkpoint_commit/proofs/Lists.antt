-- Rows of a list as they are put one behind the other: each is none of those before it.
use Rattle.std.proofs.Common.{◌≡◌, ℕ, Bool, true, false, not, List, [], ◌∷◌, ◌++◌, Some, None, refl, sym, ap, ◌∙◌}
use Rattle.std.specs.Prelude.{◌==◌, ◌&&◌, find}
use Rattle.std.specs.List.{list_all, list_any}
use Rattle.std.proofs.lemmas.Bool.{and_parts, eq-eqb, eqb-false, eqb-true, ne_eqb, not-true, or_from, or_parts}
use Rattle.queue_rows.specs.Distinct.{are_distinct}
use Rattle.queue_rows.specs.Rows.{changed_first, put_by}
use Rattle.queue_rows.specs.Valid.{is_same_seen}
use Rattle.queue_rows.specs.declared.rows.SeenRow.{SeenRow}
use Rattle.row_laws.proofs.Finding.{find-no, find-yes}
use Rattle.row_laws.proofs.Firsts.{changed_first-no, changed_first-yes}
use Rattle.valid_laws.proofs.Placing.{put_by-no}

-- ---- one row among others

module _ {X : Type 0} (p : X → Bool) where
  none_there : (xs : List X) (x : X) (ys : List X) → list_any p (xs ++ x ∷ ys) ≡ false → p x ≡ false
  none_there [] x ys h = (or_parts (p x) (list_any p ys) h).0
  none_there (z ∷ xs) x ys h = none_there xs x ys (or_parts (p z) (list_any p (xs ++ x ∷ ys)) h).1

  pub all_there : (xs : List X) (x : X) (ys : List X) → list_all p (xs ++ x ∷ ys) ≡ true → p x ≡ true
  all_there [] x ys h = (and_parts (p x) (list_all p ys) h).0
  all_there (z ∷ xs) x ys h = all_there xs x ys (and_parts (p z) (list_all p (xs ++ x ∷ ys)) h).1

-- ---- distinct rows

module _ {X : Type 0} (same : X → X → Bool) where
  parted : (x : X) (xs : List X) (y : X) (ys : List X) → are_distinct same (x ∷ (xs ++ y ∷ ys)) ≡ true → (same x y ≡ false) × (are_distinct same (xs ++ y ∷ ys) ≡ true)
  parted x xs y ys d =
      let parts = and_parts (not (list_any (same x) (xs ++ y ∷ ys))) (are_distinct same (xs ++ y ∷ ys)) d in
      (none_there (same x) xs y ys (not-true (list_any (same x) (xs ++ y ∷ ys)) parts.0), parts.1)

  -- a row that is put goes last
  pub goes_last : (xs : List X) (y : X) (ys : List X) → are_distinct same (xs ++ y ∷ ys) ≡ true → put_by same y xs ≡ xs ++ y ∷ []
  goes_last [] y ys d = refl
  goes_last (x ∷ xs) y ys d = let parts = parted x xs y ys d in put_by-no same y x xs parts.0 ∙ ap (λ (l : List X). x ∷ l) (goes_last xs y ys parts.1)

  -- and is not found before
  pub is_new : (xs : List X) (y : X) (ys : List X) → are_distinct same (xs ++ y ∷ ys) ≡ true → find (λ x. same x y) xs ≡ None
  is_new [] y ys d = refl
  is_new (x ∷ xs) y ys d = let parts = parted x xs y ys d in find-no (λ z. same z y) x xs parts.0 ∙ is_new xs y ys parts.1

-- ---- what has arrived

turned : (a b : ℕ) (same : Bool) → (a == b) ≡ same → (b == a) ≡ same
turned a b true e = eq-eqb b a (sym (eqb-true a b e))
turned a b false e = ne_eqb b a (λ is. eqb-false a b e (sym is))

seen_turned : (a b : SeenRow) → is_same_seen b a ≡ is_same_seen a b
seen_turned a b =
    ap (λ (x : Bool). x && b.slot == a.slot) (turned a.id b.id (a.id == b.id) refl) ∙ ap (λ (x : Bool). a.id == b.id && x) (turned a.slot b.slot (a.slot == b.slot) refl)

pub has_not_arrived : (xs : List SeenRow) (y : SeenRow) (ys : List SeenRow) → are_distinct is_same_seen (xs ++ y ∷ ys) ≡ true → list_any (is_same_seen y) xs ≡ false
has_not_arrived [] y ys d = refl
has_not_arrived (x ∷ xs) y ys d =
    let parts = parted is_same_seen x xs y ys d in or_from (is_same_seen y x) (list_any (is_same_seen y) xs) (seen_turned x y ∙ parts.0) (has_not_arrived xs y ys parts.1)

-- ---- a change that changes nothing

module _ {X : Type 0} (p : X → Bool) (f : X → X) where
  still_step : (x : X) (xs : List X) (b : Bool) → p x ≡ b → ((y : X) → find p (x ∷ xs) ≡ Some y → f y ≡ y)
      → (((y : X) → find p xs ≡ Some y → f y ≡ y) → changed_first p f xs ≡ xs) → changed_first p f (x ∷ xs) ≡ x ∷ xs
  still_step x xs true e still rest = changed_first-yes p f x xs e ∙ ap (λ (y : X). y ∷ xs) (still x (find-yes p x xs e))
  still_step x xs false e still rest = changed_first-no p f x xs e ∙ ap (λ (l : List X). x ∷ l) (rest (λ y found. still y (find-no p x xs e ∙ found)))

  -- where the first row of a kind stays as it is, so do all
  pub all_still : (xs : List X) → ((y : X) → find p xs ≡ Some y → f y ≡ y) → changed_first p f xs ≡ xs
  all_still [] still = refl
  all_still (x ∷ xs) still = still_step x xs (p x) refl still (all_still xs)
