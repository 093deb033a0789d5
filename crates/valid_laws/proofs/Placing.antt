-- A row that is put among its like, or taken away: what all rows are stays so, and they stay distinct.
use Rattle.std.proofs.Common.{◌≡◌, ◌≤◌, ◌+◌, ℕ, suc, List, [], ◌∷◌, Bool, true, false, not, cond, ltb, length, refl, sym, ap, ◌∙◌, arith, Option, Some, None}
use Rattle.std.specs.Prelude.{find, position, filter, option_map, if◌then◌else◌}
use Rattle.std.specs.List.{list_any, list_all, prefix_len}
use Rattle.std.proofs.lemmas.Bool.{lt-ltb, and_parts, and_from, or_parts, or_from, not-true, not_from_false}
use Rattle.queue_rows.specs.Rows.{put_at, put_by, removed_first}
use Rattle.queue_rows.specs.Distinct.{are_distinct}
use Rattle.row_laws.proofs.Finding.{find-yes, find-no, filter-yes, filter-no}
use Rattle.row_laws.proofs.Firsts.{removed_first-yes, removed_first-no}

-- ---- where it goes

module _ {X : Type 0} (p : X → Bool) where
  position-yes : (x : X) (xs : List X) → p x ≡ true → position p (x ∷ xs) ≡ Some 0
  position-yes x xs e = rw (e, lt-ltb 0 (suc (length xs)) (omega arith)) refl

  later_place : (k n : ℕ) (b : Bool) → ltb k n ≡ b → ltb (1 + k) (suc n) ≡ b → cond (ltb (1 + k) (suc n)) (Some (1 + k)) None ≡ option_map suc (cond (ltb k n) (Some k) None)
  later_place k n true e g = rw (e, g) (ap Some (omega arith))
  later_place k n false e g = rw (e, g) refl

  later_test : (k n : ℕ) → ltb (1 + k) (suc n) ≡ ltb k n
  later_test k n = grind arith

  position-no : (x : X) (xs : List X) → p x ≡ false → position p (x ∷ xs) ≡ option_map suc (position p xs)
  position-no x xs e =
      let k = prefix_len (λ y. not (p y)) xs in
      rw e (later_place k (length xs) (ltb k (length xs)) refl (later_test k (length xs)))

module _ {X : Type 0} (same : X → X → Bool) (row : X) where
  put_later : (x : X) (xs : List X) (o : Option ℕ) → put_at row (x ∷ xs) (option_map suc o) ≡ x ∷ put_at row xs o
  put_later x xs None = refl
  put_later x xs (Some i) = refl

  pub put_by-yes : (x : X) (xs : List X) → same x row ≡ true → put_by same row (x ∷ xs) ≡ row ∷ xs
  put_by-yes x xs e = ap (put_at row (x ∷ xs)) (position-yes (λ r. same r row) x xs e)

  pub put_by-no : (x : X) (xs : List X) → same x row ≡ false → put_by same row (x ∷ xs) ≡ x ∷ put_by same row xs
  put_by-no x xs e = ap (put_at row (x ∷ xs)) (position-no (λ r. same r row) x xs e) ∙ put_later x xs (position (λ r. same r row) xs)

  -- ---- what all of them are

  all_put_step : (q : X → Bool) (x : X) (xs : List X) (b : Bool) → same x row ≡ b → list_all q (x ∷ xs) ≡ true → q row ≡ true → (list_all q xs ≡ true → list_all q (put_by same row xs) ≡ true) → list_all q (put_by same row (x ∷ xs)) ≡ true
  all_put_step q x xs true e h r ih = ap (list_all q) (put_by-yes x xs e) ∙ and_from (q row) (list_all q xs) r (and_parts (q x) (list_all q xs) h).1
  all_put_step q x xs false e h r ih =
      let p = and_parts (q x) (list_all q xs) h in ap (list_all q) (put_by-no x xs e) ∙ and_from (q x) (list_all q (put_by same row xs)) p.0 (ih p.1)

  pub all_put : (q : X → Bool) (xs : List X) → list_all q xs ≡ true → q row ≡ true → list_all q (put_by same row xs) ≡ true
  all_put q [] h r = and_from (q row) true r refl
  all_put q (x ∷ xs) h r = all_put_step q x xs (same x row) refl h r (λ g. all_put q xs g r)

  -- ---- they stay distinct

  module _ (alike : (x y : X) → same x row ≡ true → same row y ≡ same x y) where
    any_put_step : (z x : X) (xs : List X) (b : Bool) → same x row ≡ b → same z row ≡ false → list_any (same z) (x ∷ xs) ≡ false → (list_any (same z) xs ≡ false → list_any (same z) (put_by same row xs) ≡ false) → list_any (same z) (put_by same row (x ∷ xs)) ≡ false
    any_put_step z x xs true e r h ih = ap (list_any (same z)) (put_by-yes x xs e) ∙ or_from (same z row) (list_any (same z) xs) r (or_parts (same z x) (list_any (same z) xs) h).1
    any_put_step z x xs false e r h ih =
        let p = or_parts (same z x) (list_any (same z) xs) h in ap (list_any (same z)) (put_by-no x xs e) ∙ or_from (same z x) (list_any (same z) (put_by same row xs)) p.0 (ih p.1)

    any_put : (z : X) (xs : List X) → same z row ≡ false → list_any (same z) xs ≡ false → list_any (same z) (put_by same row xs) ≡ false
    any_put z [] r h = or_from (same z row) false r refl
    any_put z (x ∷ xs) r h = any_put_step z x xs (same x row) refl r h (any_put z xs r)

    any_alike : (x : X) (xs : List X) → same x row ≡ true → list_any (same x) xs ≡ false → list_any (same row) xs ≡ false
    any_alike x [] e h = refl
    any_alike x (y ∷ ys) e h = let p = or_parts (same x y) (list_any (same x) ys) h in or_from (same row y) (list_any (same row) ys) (alike x y e ∙ p.0) (any_alike x ys e p.1)

    distinct_put_step : (x : X) (xs : List X) (b : Bool) → same x row ≡ b → are_distinct same (x ∷ xs) ≡ true → (are_distinct same xs ≡ true → are_distinct same (put_by same row xs) ≡ true) → are_distinct same (put_by same row (x ∷ xs)) ≡ true
    distinct_put_step x xs true e h ih =
        let p = and_parts (not (list_any (same x) xs)) (are_distinct same xs) h in
        ap (are_distinct same) (put_by-yes x xs e)
        ∙ and_from (not (list_any (same row) xs)) (are_distinct same xs) (not_from_false (list_any (same row) xs) (any_alike x xs e (not-true (list_any (same x) xs) p.0))) p.1
    distinct_put_step x xs false e h ih =
        let p = and_parts (not (list_any (same x) xs)) (are_distinct same xs) h in
        ap (are_distinct same) (put_by-no x xs e)
        ∙ and_from (not (list_any (same x) (put_by same row xs))) (are_distinct same (put_by same row xs))
        (not_from_false (list_any (same x) (put_by same row xs)) (any_put x xs e (not-true (list_any (same x) xs) p.0))) (ih p.1)

    pub distinct_put : (xs : List X) → are_distinct same xs ≡ true → are_distinct same (put_by same row xs) ≡ true
    distinct_put [] h = refl
    distinct_put (x ∷ xs) h = distinct_put_step x xs (same x row) refl h (distinct_put xs)

-- ---- a row goes

module _ {X : Type 0} (same : X → X → Bool) (r : X → Bool) where
  any_removed_step : (z x : X) (xs : List X) (b : Bool) → r x ≡ b → list_any (same z) (x ∷ xs) ≡ false → (list_any (same z) xs ≡ false → list_any (same z) (removed_first r xs) ≡ false) → list_any (same z) (removed_first r (x ∷ xs)) ≡ false
  any_removed_step z x xs true e h ih = ap (list_any (same z)) (removed_first-yes r x xs e) ∙ (or_parts (same z x) (list_any (same z) xs) h).1
  any_removed_step z x xs false e h ih =
      let p = or_parts (same z x) (list_any (same z) xs) h in ap (list_any (same z)) (removed_first-no r x xs e) ∙ or_from (same z x) (list_any (same z) (removed_first r xs)) p.0 (ih p.1)

  any_removed : (z : X) (xs : List X) → list_any (same z) xs ≡ false → list_any (same z) (removed_first r xs) ≡ false
  any_removed z [] h = refl
  any_removed z (x ∷ xs) h = any_removed_step z x xs (r x) refl h (any_removed z xs)

  distinct_removed_step : (x : X) (xs : List X) (b : Bool) → r x ≡ b → are_distinct same (x ∷ xs) ≡ true → (are_distinct same xs ≡ true → are_distinct same (removed_first r xs) ≡ true) → are_distinct same (removed_first r (x ∷ xs)) ≡ true
  distinct_removed_step x xs true e h ih = ap (are_distinct same) (removed_first-yes r x xs e) ∙ (and_parts (not (list_any (same x) xs)) (are_distinct same xs) h).1
  distinct_removed_step x xs false e h ih =
      let p = and_parts (not (list_any (same x) xs)) (are_distinct same xs) h in
      ap (are_distinct same) (removed_first-no r x xs e)
      ∙ and_from (not (list_any (same x) (removed_first r xs))) (are_distinct same (removed_first r xs)) (not_from_false (list_any (same x) (removed_first r xs)) (any_removed x xs (not-true (list_any (same x) xs) p.0))) (ih p.1)

  pub distinct_removed : (xs : List X) → are_distinct same xs ≡ true → are_distinct same (removed_first r xs) ≡ true
  distinct_removed [] h = refl
  distinct_removed (x ∷ xs) h = distinct_removed_step x xs (r x) refl h (distinct_removed xs)

-- as many of a kind are left, or fewer
module _ {X : Type 0} (p r : X → Bool) where
  fewer_cons : (x : X) (xs ys : List X) (b : Bool) → p x ≡ b → length (filter p xs) ≤ length (filter p ys) → length (filter p (x ∷ xs)) ≤ length (filter p (x ∷ ys))
  fewer_cons x xs ys true e h = rw e (let g : length (filter p xs) ≤ length (filter p ys) = h in omega (arith, g))
  fewer_cons x xs ys false e h = rw e h

  fewer_tail : (x : X) (xs : List X) (b : Bool) → p x ≡ b → length (filter p xs) ≤ length (filter p (x ∷ xs))
  fewer_tail x xs true e = rw e (omega arith)
  fewer_tail x xs false e = rw e (omega arith)

  fewer_step : (x : X) (xs : List X) (b : Bool) → r x ≡ b → length (filter p (removed_first r xs)) ≤ length (filter p xs) → length (filter p (removed_first r (x ∷ xs))) ≤ length (filter p (x ∷ xs))
  fewer_step x xs true e h = let g = ap (λ ys. length (filter p ys)) (removed_first-yes r x xs e) in let k = fewer_tail x xs (p x) refl in omega (arith, g, k)
  fewer_step x xs false e h = let g = ap (λ ys. length (filter p ys)) (removed_first-no r x xs e) in let k = fewer_cons x (removed_first r xs) xs (p x) refl h in omega (arith, g, k)

  pub fewer_removed : (xs : List X) → length (filter p (removed_first r xs)) ≤ length (filter p xs)
  fewer_removed [] = omega arith
  fewer_removed (x ∷ xs) = fewer_step x xs (r x) refl (fewer_removed xs)

-- how many of a kind there are when one was put
module _ {X : Type 0} (same : X → X → Bool) (row : X) (p : X → Bool) where
  count_cons : (x : X) (xs : List X) (b : Bool) → p x ≡ b → length (filter p (x ∷ xs)) ≡ (if b then 1 else 0) + length (filter p xs)
  count_cons x xs true e = rw e (omega arith)
  count_cons x xs false e = rw e (omega arith)

  more_step : (x : X) (xs : List X) (b c d : Bool) → same x row ≡ b → p x ≡ c → p row ≡ d → length (filter p (put_by same row xs)) ≤ length (filter p xs) + 1 → length (filter p (put_by same row (x ∷ xs))) ≤ length (filter p (x ∷ xs)) + 1
  more_step x xs true c d e g h ih =
      let a = ap (λ ys. length (filter p ys)) (put_by-yes same row x xs e) in
      let k = count_cons row xs d h in
      let l = count_cons x xs c g in
      let top = if_most d in
      omega (arith, a, k, l, top)
    where
      if_most : (d : Bool) → (if d then 1 else 0) ≤ 1
      if_most true = omega arith
      if_most false = omega arith
  more_step x xs false c d e g h ih =
      let a = ap (λ ys. length (filter p ys)) (put_by-no same row x xs e) in
      let k = count_cons x (put_by same row xs) c g in
      let l = count_cons x xs c g in
      omega (arith, a, k, l, ih)

  one_at_most : (b : Bool) → p row ≡ b → length (filter p (row ∷ [])) ≤ 0 + 1
  one_at_most true e = rw e (omega arith)
  one_at_most false e = rw e (omega arith)

  pub more_put : (xs : List X) → length (filter p (put_by same row xs)) ≤ length (filter p xs) + 1
  more_put [] = one_at_most (p row) refl
  more_put (x ∷ xs) = more_step x xs (same x row) (p x) (p row) refl refl refl (more_put xs)

  module _ (other : p row ≡ false) where
    fewer_put_step : (x : X) (xs : List X) (b c : Bool) → same x row ≡ b → p x ≡ c → length (filter p (put_by same row xs)) ≤ length (filter p xs) → length (filter p (put_by same row (x ∷ xs))) ≤ length (filter p (x ∷ xs))
    fewer_put_step x xs true c e g ih =
        let a = ap (λ ys. length (filter p ys)) (put_by-yes same row x xs e) in
        let k = count_cons row xs false other in
        let l = count_cons x xs c g in
        omega (arith, a, k, l)
    fewer_put_step x xs false c e g ih =
        let a = ap (λ ys. length (filter p ys)) (put_by-no same row x xs e) in
        let k = count_cons x (put_by same row xs) c g in
        let l = count_cons x xs c g in
        omega (arith, a, k, l, ih)

    none_put : length (filter p (row ∷ [])) ≤ 0
    none_put = rw other (omega arith)

    pub fewer_put : (xs : List X) → length (filter p (put_by same row xs)) ≤ length (filter p xs)
    fewer_put [] = none_put
    fewer_put (x ∷ xs) = fewer_put_step x xs (same x row) (p x) refl refl (fewer_put xs)

-- what is found when one was put
module _ {X : Type 0} (same : X → X → Bool) (row : X) (p : X → Bool) where
  cong_step : (x : X) (xs ys : List X) (b : Bool) → p x ≡ b → find p xs ≡ find p ys → find p (x ∷ xs) ≡ find p (x ∷ ys)
  cong_step x xs ys true e h = find-yes p x xs e ∙ sym (find-yes p x ys e)
  cong_step x xs ys false e h = find-no p x xs e ∙ h ∙ sym (find-no p x ys e)

  put_yes_step : p row ≡ true → ((x : X) → same x row ≡ false → p x ≡ false) → (x : X) (xs : List X) (b : Bool) → same x row ≡ b → find p (put_by same row xs) ≡ Some row → find p (put_by same row (x ∷ xs)) ≡ Some row
  put_yes_step e k x xs true g ih = ap (find p) (put_by-yes same row x xs g) ∙ find-yes p row xs e
  put_yes_step e k x xs false g ih = ap (find p) (put_by-no same row x xs g) ∙ find-no p x (put_by same row xs) (k x g) ∙ ih

  pub find_put : p row ≡ true → ((x : X) → same x row ≡ false → p x ≡ false) → (xs : List X) → find p (put_by same row xs) ≡ Some row
  find_put e k [] = find-yes p row [] e
  find_put e k (x ∷ xs) = put_yes_step e k x xs (same x row) refl (find_put e k xs)

  put_no_step : p row ≡ false → ((x : X) → same x row ≡ true → p x ≡ false) → (x : X) (xs : List X) (b : Bool) → same x row ≡ b → find p (put_by same row xs) ≡ find p xs → find p (put_by same row (x ∷ xs)) ≡ find p (x ∷ xs)
  put_no_step e k x xs true g ih = ap (find p) (put_by-yes same row x xs g) ∙ find-no p row xs e ∙ sym (find-no p x xs (k x g))
  put_no_step e k x xs false g ih = ap (find p) (put_by-no same row x xs g) ∙ cong_step x (put_by same row xs) xs (p x) refl ih

  pub find_other_put : p row ≡ false → ((x : X) → same x row ≡ true → p x ≡ false) → (xs : List X) → find p (put_by same row xs) ≡ find p xs
  find_other_put e k [] = find-no p row [] e
  find_other_put e k (x ∷ xs) = put_no_step e k x xs (same x row) refl (find_other_put e k xs)

-- ---- some rows alone

module _ {X : Type 0} (r : X → Bool) where
  all_filter_step : (q s : X → Bool) → ((x : X) → r x ≡ true → q x ≡ true → s x ≡ true) → (x : X) (xs : List X) (b : Bool) → r x ≡ b → list_all q (x ∷ xs) ≡ true → (list_all q xs ≡ true → list_all s (filter r xs) ≡ true) → list_all s (filter r (x ∷ xs)) ≡ true
  all_filter_step q s k x xs true e h ih =
      let p = and_parts (q x) (list_all q xs) h in ap (list_all s) (filter-yes r r x xs e) ∙ and_from (s x) (list_all s (filter r xs)) (k x e p.0) (ih p.1)
  all_filter_step q s k x xs false e h ih = ap (list_all s) (filter-no r r x xs e) ∙ ih (and_parts (q x) (list_all q xs) h).1

  pub all_filter : (q s : X → Bool) → ((x : X) → r x ≡ true → q x ≡ true → s x ≡ true) → (xs : List X) → list_all q xs ≡ true → list_all s (filter r xs) ≡ true
  all_filter q s k [] h = refl
  all_filter q s k (x ∷ xs) h = all_filter_step q s k x xs (r x) refl h (all_filter q s k xs)

  any_filter_step : (q : X → Bool) (x : X) (xs : List X) (b : Bool) → r x ≡ b → list_any q (x ∷ xs) ≡ false → (list_any q xs ≡ false → list_any q (filter r xs) ≡ false) → list_any q (filter r (x ∷ xs)) ≡ false
  any_filter_step q x xs true e h ih = let p = or_parts (q x) (list_any q xs) h in ap (list_any q) (filter-yes r r x xs e) ∙ or_from (q x) (list_any q (filter r xs)) p.0 (ih p.1)
  any_filter_step q x xs false e h ih = ap (list_any q) (filter-no r r x xs e) ∙ ih (or_parts (q x) (list_any q xs) h).1

  any_filter : (q : X → Bool) (xs : List X) → list_any q xs ≡ false → list_any q (filter r xs) ≡ false
  any_filter q [] h = refl
  any_filter q (x ∷ xs) h = any_filter_step q x xs (r x) refl h (any_filter q xs)

  distinct_filter_step : (same : X → X → Bool) (x : X) (xs : List X) (b : Bool) → r x ≡ b → are_distinct same (x ∷ xs) ≡ true → (are_distinct same xs ≡ true → are_distinct same (filter r xs) ≡ true) → are_distinct same (filter r (x ∷ xs)) ≡ true
  distinct_filter_step same x xs true e h ih =
      let p = and_parts (not (list_any (same x) xs)) (are_distinct same xs) h in
      ap (are_distinct same) (filter-yes r r x xs e)
      ∙ and_from (not (list_any (same x) (filter r xs))) (are_distinct same (filter r xs)) (not_from_false (list_any (same x) (filter r xs)) (any_filter (same x) xs (not-true (list_any (same x) xs) p.0))) (ih p.1)
  distinct_filter_step same x xs false e h ih = ap (are_distinct same) (filter-no r r x xs e) ∙ ih (and_parts (not (list_any (same x) xs)) (are_distinct same xs) h).1

  pub distinct_filter : (same : X → X → Bool) (xs : List X) → are_distinct same xs ≡ true → are_distinct same (filter r xs) ≡ true
  distinct_filter same [] h = refl
  distinct_filter same (x ∷ xs) h = distinct_filter_step same x xs (r x) refl h (distinct_filter same xs)

  fewer_filter_step : (p : X → Bool) (x : X) (xs : List X) (b : Bool) → r x ≡ b → length (filter p (filter r xs)) ≤ length (filter p xs) → length (filter p (filter r (x ∷ xs))) ≤ length (filter p (x ∷ xs))
  fewer_filter_step p x xs true e h = let g = ap (λ ys. length (filter p ys)) (filter-yes r r x xs e) in let k = fewer_cons p p x (filter r xs) xs (p x) refl h in omega (arith, g, k)
  fewer_filter_step p x xs false e h = let g = ap (λ ys. length (filter p ys)) (filter-no r r x xs e) in let k = fewer_tail p p x xs (p x) refl in omega (arith, g, k, h)

  pub fewer_filter : (p : X → Bool) (xs : List X) → length (filter p (filter r xs)) ≤ length (filter p xs)
  fewer_filter p [] = omega arith
  fewer_filter p (x ∷ xs) = fewer_filter_step p x xs (r x) refl (fewer_filter p xs)
