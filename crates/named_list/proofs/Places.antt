-- Items by the places of their names.
use Rattle.std.proofs.Common.{◌≡◌, ℕ, zero, suc, ◌+◌, ◌-◌, ◌<◌, ◌≤◌, Bool, true, false, cond, List, [], ◌∷◌, ◌++◌, filter, map, take, drop, length, Option, Some, None, nat_lt, refl, sym, ap, ◌∙◌, subst, arith, inl, inr}
use Rattle.std.specs.Prelude.{IfSome, find, position, remove, slice_get, slice_set}
use Rattle.std.specs.List.{position_or_len}
use Rattle.std.specs.Option.{option_map_or}
use Rattle.std.specs.Str.{bytes_eq}
use Rattle.std.proofs.lemmas.Bool.{cases_Bool, lt-ltb, le-ltb, ltb-true, ltb-false}
use Rattle.std.proofs.lemmas.List.{map-append, take-map, drop-map}
use Rattle.std.proofs.lemmas.Option.{none-some}
use Rattle.row_tree.specs.Edits.{edit_at}
use Rattle.named_list.specs.Places.{places_from, places_of}
use Rattle.row_tree.proofs.Finding.{find_filter_other}

-- the first of the items that pass is the one that is found
pub first_found : {T : Type 0} (p : T → Bool) (xs : List T) → slice_get (filter p xs) 0 ≡ find p xs
first_found p [] = refl
first_found {T} p (x ∷ xs) =
    let Q : Bool → Type 0 = λ b. slice_get (cond b (x ∷ filter p xs) (filter p xs)) 0 ≡ cond b (Some x) (find p xs) in
    elim (p x) as Q [ true ↦ refl | false ↦ first_found p xs ]

pub few_pass : {T : Type 0} (p : T → Bool) (xs : List T) → length (filter p xs) ≤ length xs
few_pass p [] = omega arith
few_pass {T} p (x ∷ xs) =
    let few = few_pass p xs in
    let Q : Bool → Type 0 = λ b. length (cond b (x ∷ filter p xs) (filter p xs)) ≤ length (x ∷ xs) in
    elim (p x) as Q [ true ↦ omega (arith, few) | false ↦ omega (arith, few) ]

one_further : {T : Type 0} (x : T) (xs : List T) (start at : ℕ) → suc start ≤ at → slice_get xs (at - suc start) ≡ slice_get (x ∷ xs) (at - start)
one_further x xs start at past =
    let is : suc (at - suc start) ≡ at - start = omega (arith, past) in
    ap (slice_get (x ∷ xs)) is

-- an item that stands where a place is told
record Stands {T : Type 0} (start at : ℕ) (xs : List T) (item : Option T) : Type 0 where
  past : start ≤ at
  there : item ≡ slice_get xs (at - start)

further : {T : Type 0} (x : T) (xs : List T) (start at : ℕ) (item : Option T) → Stands (suc start) at xs item → Stands start at (x ∷ xs) item
further x xs start at item stands =
    let past = stands.past in
    record { past = omega (arith, past); there = stands.there ∙ one_further x xs start at past }

module _ {T : Type 0} (name_of : T → List ℕ) (name : List ℕ) where
  nth_stands : (start : ℕ) (xs : List T) (number at : ℕ) → slice_get (places_from start name (map name_of xs)) number ≡ Some at
      → Stands start at xs (slice_get (filter (λ x. bytes_eq (name_of x) name) xs) number)
  nth_stands start [] number at told = absurd (none-some at told)
  nth_stands start (x ∷ xs) zero at told =
      let rest = places_from (suc start) name (map name_of xs) in
      let kept = filter (λ y. bytes_eq (name_of y) name) xs in
      let Q : Bool → Type 0 = λ b. slice_get (cond b (start ∷ rest) rest) 0 ≡ Some at → Stands start at (x ∷ xs) (slice_get (cond b (x ∷ kept) kept) 0) in
      elim (bytes_eq (name_of x) name) as Q [
        | true ↦ λ t.
            let here : start ≡ at = cc in
            let none : 0 ≡ at - start = omega (arith, here) in
            record { past = omega (arith, here); there = ap (slice_get (x ∷ xs)) none }
        | false ↦ λ t. further x xs start at (slice_get kept 0) (nth_stands (suc start) xs 0 at t)
      ] told
  nth_stands start (x ∷ xs) (suc number) at told =
      let rest = places_from (suc start) name (map name_of xs) in
      let kept = filter (λ y. bytes_eq (name_of y) name) xs in
      let Q : Bool → Type 0 = λ b. slice_get (cond b (start ∷ rest) rest) (suc number) ≡ Some at → Stands start at (x ∷ xs) (slice_get (cond b (x ∷ kept) kept) (suc number)) in
      elim (bytes_eq (name_of x) name) as Q [
        | true ↦ λ t. further x xs start at (slice_get kept number) (nth_stands (suc start) xs number at t)
        | false ↦ λ t. further x xs start at (slice_get kept (suc number)) (nth_stands (suc start) xs (suc number) at t)
      ] told

  -- the item of a number is the one at its place
  pub nth_item : (xs : List T) (number at : ℕ) → slice_get (places_of name (map name_of xs)) number ≡ Some at
      → slice_get (filter (λ x. bytes_eq (name_of x) name) xs) number ≡ slice_get xs at
  nth_item xs number at told =
      let stands = nth_stands 0 xs number at told in
      let same : at - 0 ≡ at = omega arith in
      stands.there ∙ ap (slice_get xs) same

  no_nth : (start : ℕ) (xs : List T) (number : ℕ) → slice_get (places_from start name (map name_of xs)) number ≡ None
      → slice_get (filter (λ x. bytes_eq (name_of x) name) xs) number ≡ None
  no_nth start [] number none = refl
  no_nth start (x ∷ xs) zero none =
      let rest = places_from (suc start) name (map name_of xs) in
      let kept = filter (λ y. bytes_eq (name_of y) name) xs in
      let Q : Bool → Type 0 = λ b. slice_get (cond b (start ∷ rest) rest) 0 ≡ None → slice_get (cond b (x ∷ kept) kept) 0 ≡ None in
      elim (bytes_eq (name_of x) name) as Q [ true ↦ λ t. absurd (none-some start (sym t)) | false ↦ λ t. no_nth (suc start) xs 0 t ] none
  no_nth start (x ∷ xs) (suc number) none =
      let rest = places_from (suc start) name (map name_of xs) in
      let kept = filter (λ y. bytes_eq (name_of y) name) xs in
      let Q : Bool → Type 0 = λ b. slice_get (cond b (start ∷ rest) rest) (suc number) ≡ None → slice_get (cond b (x ∷ kept) kept) (suc number) ≡ None in
      elim (bytes_eq (name_of x) name) as Q [ true ↦ λ t. no_nth (suc start) xs number t | false ↦ λ t. no_nth (suc start) xs (suc number) t ] none

  -- without a place there is no item
  pub no_item : (xs : List T) (number : ℕ) → slice_get (places_of name (map name_of xs)) number ≡ None
      → slice_get (filter (λ x. bytes_eq (name_of x) name) xs) number ≡ None
  no_item xs number none = no_nth 0 xs number none

  -- there are as many items as places
  pub items_counted : (start : ℕ) (xs : List T) → length (places_from start name (map name_of xs)) ≡ length (filter (λ x. bytes_eq (name_of x) name) xs)
  items_counted start [] = refl
  items_counted start (x ∷ xs) =
      let rest = places_from (suc start) name (map name_of xs) in
      let kept = filter (λ y. bytes_eq (name_of y) name) xs in
      let later = items_counted (suc start) xs in
      let Q : Bool → Type 0 = λ b. length (cond b (start ∷ rest) rest) ≡ length (cond b (x ∷ kept) kept) in
      elim (bytes_eq (name_of x) name) as Q [ true ↦ ap suc later | false ↦ later ]

  -- ---- what is sought has the name

  module _ (q : T → Bool) (has : (x : T) → q x ≡ true → bytes_eq (name_of x) name ≡ true) where
    -- where the first one of the items of the name passes, the first one of all does
    record IsPlaced (start number : ℕ) (xs : List T) : Type 0 where
      place : slice_get (places_from start name (map name_of xs)) number ≡ Some (start + position_or_len q xs)
      within : position_or_len q xs < length xs

    fails : (x : T) → bytes_eq (name_of x) name ≡ false → q x ≡ false
    fails x other = elim (cases_Bool (q x)) [ inl is ↦ let named = has x is in cc | inr fails_it ↦ fails_it ]

    -- what is found among those of the name is found among all
    pub found_among : (xs : List T) → find q (filter (λ x. bytes_eq (name_of x) name) xs) ≡ find q xs
    found_among xs = find_filter_other (λ x. bytes_eq (name_of x) name) q fails xs

    moved : (start m : ℕ) → suc start + m ≡ start + (1 + m)
    moved start m = omega arith

    placed : (start : ℕ) (xs : List T) → position_or_len q (filter (λ x. bytes_eq (name_of x) name) xs) < length (filter (λ x. bytes_eq (name_of x) name) xs)
        → IsPlaced start (position_or_len q (filter (λ x. bytes_eq (name_of x) name) xs)) xs
    placed start [] within = absurd (omega (arith, within))
    placed start (x ∷ xs) within =
        let rest = places_from (suc start) name (map name_of xs) in
        let kept = filter (λ y. bytes_eq (name_of y) name) xs in
        let m = position_or_len q xs in
        elim (cases_Bool (bytes_eq (name_of x) name)) [
          | inl named ↦
              let shown : filter (λ y. bytes_eq (name_of y) name) (x ∷ xs) ≡ x ∷ kept = rw named refl in
              let told : places_from start name (map name_of (x ∷ xs)) ≡ start ∷ rest = rw named refl in
              let inside : position_or_len q (x ∷ kept) < length (x ∷ kept) = subst (λ ys. position_or_len q ys < length ys) shown within in
              let placed_here : IsPlaced start (position_or_len q (x ∷ kept)) (x ∷ xs) =
              elim (cases_Bool (q x)) [
                | inl is ↦
                    let none : start ≡ start + 0 = omega arith in
                    record {
                      place = rw (told, is) (ap Some none);
                      within = rw is (omega arith);
                    }
                | inr fails_it ↦
                    let next : position_or_len q (x ∷ kept) ≡ suc (position_or_len q kept) = rw fails_it (omega arith) in
                    let later = placed (suc start) xs (omega (arith, inside, next)) in
                    let behind = later.within in
                    record {
                      place = rw (told, next) (later.place ∙ ap Some (moved start m) ∙ rw fails_it refl);
                      within = rw fails_it (omega (arith, behind));
                    }
              ] in
              subst (λ ys. IsPlaced start (position_or_len q ys) (x ∷ xs)) (sym shown) placed_here
          | inr other ↦
              let fails_it = fails x other in
              let shown : filter (λ y. bytes_eq (name_of y) name) (x ∷ xs) ≡ kept = rw other refl in
              let told : places_from start name (map name_of (x ∷ xs)) ≡ rest = rw other refl in
              let later = placed (suc start) xs (subst (λ ys. position_or_len q ys < length ys) shown within) in
              let behind = later.within in
              let placed_later : IsPlaced start (position_or_len q kept) (x ∷ xs) =
              record {
                place = rw told (later.place ∙ ap Some (moved start m) ∙ rw fails_it refl);
                within = rw fails_it (omega (arith, behind));
              } in
              subst (λ ys. IsPlaced start (position_or_len q ys) (x ∷ xs)) (sym shown) placed_later
        ]

    nowhere : (xs : List T) → length (filter (λ x. bytes_eq (name_of x) name) xs) ≤ position_or_len q (filter (λ x. bytes_eq (name_of x) name) xs)
        → length xs ≤ position_or_len q xs
    nowhere [] past = omega arith
    nowhere (x ∷ xs) past =
        let kept = filter (λ y. bytes_eq (name_of y) name) xs in
        elim (cases_Bool (bytes_eq (name_of x) name)) [
          | inl named ↦
              let shown : filter (λ y. bytes_eq (name_of y) name) (x ∷ xs) ≡ x ∷ kept = rw named refl in
              let beyond : length (x ∷ kept) ≤ position_or_len q (x ∷ kept) = subst (λ ys. length ys ≤ position_or_len q ys) shown past in
              elim (cases_Bool (q x)) [
                | inl is ↦
                    let here : position_or_len q (x ∷ kept) ≡ 0 = rw is refl in
                    absurd (omega (arith, beyond, here))
                | inr fails_it ↦
                    let next : position_or_len q (x ∷ kept) ≡ suc (position_or_len q kept) = rw fails_it (omega arith) in
                    let later = nowhere xs (omega (arith, beyond, next)) in
                    rw fails_it (omega (arith, later))
              ]
          | inr other ↦
              let fails_it = fails x other in
              let shown : filter (λ y. bytes_eq (name_of y) name) (x ∷ xs) ≡ kept = rw other refl in
              let later = nowhere xs (subst (λ ys. length ys ≤ position_or_len q ys) shown past) in
              rw fails_it (omega (arith, later))
        ]

    is_some : (b : Bool) (n i : ℕ) → cond b (Some n) None ≡ Some i → (b ≡ true) × (n ≡ i)
    is_some true n i e = let same : n ≡ i = cc in (refl, same)
    is_some false n i e = absurd (none-some i e)

    is_none : (b : Bool) (n : ℕ) → cond b (Some n) None ≡ None → b ≡ false
    is_none true n e = absurd (none-some n (sym e))
    is_none false n e = refl

    -- what is the first of the name is the first of all
    pub sought_at : (xs : List T) (number : ℕ) (place : Option ℕ) → position q (filter (λ x. bytes_eq (name_of x) name) xs) ≡ Some number
        → place ≡ slice_get (places_of name (map name_of xs)) number → place ≡ position q xs
    sought_at xs number place told is =
        let kept = filter (λ x. bytes_eq (name_of x) name) xs in
        let n = position_or_len q kept in
        let m = position_or_len q xs in
        let some = is_some (nat_lt n (length kept)) n number told in
        let stands = placed 0 xs (ltb-true n (length kept) some.0) in
        let zero_more : 0 + m ≡ m = omega arith in
        let inside = lt-ltb m (length xs) stands.within in
        is ∙ ap (slice_get (places_of name (map name_of xs))) (sym some.1) ∙ stands.place ∙ ap Some zero_more ∙ sym (ap (λ b. cond b (Some m) None) inside)

    -- what is nowhere among those of the name is nowhere
    pub sought_nowhere : (xs : List T) → position q (filter (λ x. bytes_eq (name_of x) name) xs) ≡ None → None ≡ position q xs
    sought_nowhere xs told =
        let kept = filter (λ x. bytes_eq (name_of x) name) xs in
        let n = position_or_len q kept in
        let m = position_or_len q xs in
        let past = nowhere xs (ltb-false n (length kept) (is_none (nat_lt n (length kept)) n told)) in
        sym (ap (λ b. cond b (Some m) None) (le-ltb m (length xs) past))

    pub sought_within : (xs : List T) (place : Option ℕ) → place ≡ position q xs → IfSome place (λ at. at < length xs)
    sought_within xs place is =
        let m = position_or_len q xs in
        let Q : Bool → Type 0 = λ b. nat_lt m (length xs) ≡ b → IfSome (cond b (Some m) None) (λ at. at < length xs) in
        let holds : IfSome (position q xs) (λ at. at < length xs) = elim (nat_lt m (length xs)) as Q [ true ↦ λ e. ltb-true m (length xs) e | false ↦ λ e. tt ] refl in
        subst (λ (o : Option ℕ). IfSome o (λ at. at < length xs)) (sym is) holds

-- ---- names as items change

module _ {T N : Type 0} (f : T → N) where
  same_set : (xs : List T) (at : ℕ) (x y : T) → slice_get xs at ≡ Some x → f y ≡ f x → map f (slice_set xs at y) ≡ map f xs
  same_set [] at x y there same = absurd (none-some x there)
  same_set (z ∷ zs) zero x y there same = let first : z ≡ x = cc in ap (λ n. n ∷ map f zs) (same ∙ ap f (sym first))
  same_set (z ∷ zs) (suc at) x y there same = ap (λ ns. f z ∷ ns) (same_set zs at x y there same)

  pub names_kept : (xs : List T) (at : ℕ) (change : T → T) → IfSome (slice_get xs at) (λ x. f (change x) ≡ f x) → map f (edit_at xs at change) ≡ map f xs
  names_kept xs at change kept =
      let Q : Option T → Type 0 = λ o. slice_get xs at ≡ o → IfSome o (λ x. f (change x) ≡ f x) → map f (option_map_or (λ x. slice_set xs at (change x)) o xs) ≡ map f xs in
      elim (slice_get xs at) as Q [ None ↦ λ e k. refl | Some x ↦ λ e k. same_set xs at x (change x) e k ] refl kept

  pub names_without : (xs : List T) (at : ℕ) → remove (map f xs) at ≡ map f (remove xs at)
  names_without xs at =
      sym (map-append f (take at xs) (drop (suc at) xs) ∙ ap (λ x. x ++ map f (drop (suc at) xs)) (sym (take-map f at xs)) ∙ ap (λ x. take at (map f xs) ++ x) (sym (drop-map f (suc at) xs)))

-- ---- items one after the other

pub none_left : {T : Type 0} (xs : List T) (at : ℕ) → slice_get xs at ≡ None → drop at xs ≡ []
none_left [] zero none = refl
none_left [] (suc at) none = refl
none_left (x ∷ xs) zero none = absurd (none-some x (sym none))
none_left (x ∷ xs) (suc at) none = none_left xs at none

pub first_left : {T : Type 0} (xs : List T) (at : ℕ) (x : T) → slice_get xs at ≡ Some x → drop at xs ≡ x ∷ drop (at + 1) xs
first_left [] at x e = cc e
first_left (y ∷ ys) zero x e = let same : y ≡ x = cc e in ap (λ z. z ∷ ys) same
first_left (y ∷ ys) (suc i) x e = let on : suc (i + 1) ≡ suc i + 1 = omega arith in first_left ys i x e ∙ ap (λ n. x ∷ drop n (y ∷ ys)) on

-- ---- the names that an index has

pub names_follow : (index : Option (List (List ℕ))) (was now : List (List ℕ)) → now ≡ was → IfSome index (λ names. names ≡ was) → IfSome index (λ names. names ≡ now)
names_follow index was now same has = subst (λ (ns : List (List ℕ)). IfSome index (λ names. names ≡ ns)) (sym same) has

pub names_are : (index : Option (List (List ℕ))) (names was : List (List ℕ)) → index ≡ Some names → IfSome index (λ ns. ns ≡ was) → names ≡ was
names_are index names was some has = subst (λ (o : Option (List (List ℕ))). IfSome o (λ ns. ns ≡ was)) some has
