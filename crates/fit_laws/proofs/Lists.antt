-- Lists whose items are distinct, and tests of all items.
use Rattle.std.proofs.Common.{◌≡◌, ℕ, List, [], ◌∷◌, ◌++◌, Bool, true, false, not, refl, sym, ◌∙◌, Option, Some, None, ◌||◌}
use Rattle.std.specs.Prelude.{find, position}
use Rattle.std.specs.List.{list_any, list_all}
use Rattle.std.proofs.lemmas.Bool.{and_parts, and_from, or_parts, or_from, or_cases, not-true, not_from_false, false≢true}
use Rattle.std.proofs.lemmas.List.Folds.{list_all-append, list_any-append}
use Rattle.std.proofs.lemmas.Option.{none-some}
use Rattle.std.proofs.Common.{◌⊎◌, inl, inr}
use Rattle.queue_rows.specs.Distinct.{are_distinct}
use Rattle.queue_rows.specs.Rows.{changed_first, changed_at}
use Rattle.row_laws.proofs.Distinctly.{none_if_no_any}
use Rattle.row_laws.proofs.Finding.{find-yes, find-no}
use Rattle.valid_laws.proofs.Parts.{distinct_nth}

-- ---- tests

-- two tests that follow from one another are one
pub same_test : (a b : Bool) → (a ≡ true → b ≡ true) → (b ≡ true → a ≡ true) → a ≡ b
same_test true b f g = sym (f refl)
same_test false true f g = absurd (false≢true (g refl))
same_test false false f g = refl

module _ {X : Type 0} (a b : X → Bool) where
  both_step : (x : X) (xs : List X) → a x ≡ true → (b x ≡ true) ⊎ (list_any b xs ≡ true) → (list_any b xs ≡ true → (y : X) × (a y ≡ true) × (b y ≡ true)) → (y : X) × (a y ≡ true) × (b y ≡ true)
  both_step x xs h (inl e) ih = (x, h, e)
  both_step x xs h (inr e) ih = ih e

  -- where all items pass one test and some item another, an item passes both
  pub some_both : (xs : List X) → list_all a xs ≡ true → list_any b xs ≡ true → (y : X) × (a y ≡ true) × (b y ≡ true)
  some_both [] h e = absurd (false≢true e)
  some_both (x ∷ xs) h e =
      let p = and_parts (a x) (list_all a xs) h in both_step x xs p.0 (or_cases (b x) (list_any b xs) e) (some_both xs p.1)

pub all_of : {X : Type 0} (q : X → Bool) → ((x : X) → q x ≡ true) → (xs : List X) → list_all q xs ≡ true
all_of q k [] = refl
all_of q k (x ∷ xs) = and_from (q x) (list_all q xs) (k x) (all_of q k xs)

pub append_parts : {X : Type 0} (q : X → Bool) (xs ys : List X) → list_all q (xs ++ ys) ≡ true → (list_all q xs ≡ true) × (list_all q ys ≡ true)
append_parts q xs ys h = and_parts (list_all q xs) (list_all q ys) (sym (list_all-append q xs ys) ∙ h)

-- ---- distinct items

module _ {X : Type 0} (same : X → X → Bool) where
  pub distinct_last : (xs : List X) (y : X) → are_distinct same xs ≡ true → list_any (λ x. same x y) xs ≡ false → are_distinct same (xs ++ y ∷ []) ≡ true
  distinct_last [] y d h = refl
  distinct_last (x ∷ xs) y d h =
      let ds = and_parts (not (list_any (same x) xs)) (are_distinct same xs) d in
      let hs = or_parts (same x y) (list_any (λ z. same z y) xs) h in
      and_from (not (list_any (same x) (xs ++ y ∷ []))) (are_distinct same (xs ++ y ∷ []))
      (not_from_false (list_any (same x) (xs ++ y ∷ []))
      (list_any-append (same x) xs (y ∷ []) ∙ or_from (list_any (same x) xs) (same x y || false) (not-true (list_any (same x) xs) ds.0) (or_from (same x y) false hs.0 refl)))
      (distinct_last xs y ds.1 hs.1)

  module _ (f : X → X) (left : (x y : X) → same (f x) y ≡ same x y) (right : (x y : X) → same x (f y) ≡ same x y) where
    distinct_at : (o : Option ℕ) (xs : List X) → are_distinct same (changed_at f o xs) ≡ are_distinct same xs
    distinct_at None xs = refl
    distinct_at (Some i) xs = distinct_nth same f left right xs i

    pub distinct_first : (r : X → Bool) (xs : List X) → are_distinct same (changed_first r f xs) ≡ are_distinct same xs
    distinct_first r xs = distinct_at (position r xs) xs

  module _ (self : (x : X) → same x x ≡ true) (join : (x y m : X) → same x m ≡ true → same y m ≡ true → same x y ≡ true) where
    apart : (x m y : X) (xs : List X) → list_any (same x) xs ≡ false → same x m ≡ true → find (λ r. same r m) xs ≡ Some y → ⊥
    apart x m y xs h e f = none-some y (sym (none_if_no_any (λ r. same r m) (same x) (λ r g. join x r m e g) xs h) ∙ f)

    each_step : (p q : X → Bool) (x : X) (xs : List X) → list_any (same x) xs ≡ false → ((m : X) → find (λ r. same r m) (x ∷ xs) ≡ Some m → q m ≡ true → p m ≡ true) → (m : X) (b : Bool) → same x m ≡ b
        → find (λ r. same r m) xs ≡ Some m → q m ≡ true → p m ≡ true
    each_step p q x xs h k m true e f g = absurd (apart x m m xs h e f)
    each_step p q x xs h k m false e f g = k m (find-no (λ r. same r m) x xs e ∙ f) g

    -- each of distinct items is the one that is found as the same
    pub each_found : (p q : X → Bool) (xs : List X) → are_distinct same xs ≡ true → list_all q xs ≡ true → ((m : X) → find (λ r. same r m) xs ≡ Some m → q m ≡ true → p m ≡ true) → list_all p xs ≡ true
    each_found p q [] d h k = refl
    each_found p q (x ∷ xs) d h k =
        let ds = and_parts (not (list_any (same x) xs)) (are_distinct same xs) d in
        let hs = and_parts (q x) (list_all q xs) h in
        and_from (p x) (list_all p xs) (k x (find-yes (λ r. same r x) x xs (self x)) hs.0)
        (each_found p q xs ds.1 hs.1 (λ m f g. each_step p q x xs (not-true (list_any (same x) xs) ds.0) k m (same x m) refl f g))
