-- What is told of pairs once an item more stands in the list.
use Rattle.std.proofs.Common.{◌≡◌, ◌≢◌, ℕ, ◌+◌, ◌≤◌, ◌==◌, ◌&&◌, ◌||◌, ◌++◌, ◌∷◌, [], List, Bool, true, false, cond, not, Option, Some, None, is_some, length, length-append, nat_lt, suc, refl, sym, ap, ◌∙◌, arith}
use Rattle.std.proofs.lemmas.Bool.Decides.{nat_tests}
use Rattle.std.proofs.lemmas.Cmp.{alike_right}
use Rattle.std.proofs.lemmas.List.Elements.{All-cons}
use Rattle.std.proofs.lemmas.List.Folds.{position_or_len_push}
use Rattle.std.proofs.lemmas.List.Sums.{prefix_len-le-length}
use Rattle.std.specs.List.{All, find, list_any, position, position_or_len}
use Rattle.std.specs.Option.{option_map, option_or}
use Rattle.std.specs.Ordering.{is_eq, nat_cmp, ordering_then}
use Rattle.std.specs.declared.cmp.Ordering.{Ordering}
use Rattle.std.specs.declared.cmp.Ordering.TheVariants.{Less, Equal, Greater}
use Rattle.row_tree.specs.Order.{put_in_order}
use Rattle.row_tree.specs.Split.{NonePass}
use Rattle.pair_list.specs.Places.{Tells, has_pair, is_of, key, noted, place_cmp, place_cmp_total}
use Rattle.pair_list.specs.declared.place.PairPlace.{PairPlace}
use Rattle.row_tree.proofs.Finding.{find_alike, find_put_here, find_put_other, none_found}

one_more : (n l m k : ℕ) (b : Bool) → n ≤ l → m ≡ cond (n == l) (l + cond b 0 1) n → k ≡ l + 1
    → cond (nat_lt m k) (Some m) None ≡ option_or (cond (nat_lt n l) (Some n) None) (cond b (Some l) None)
one_more n l m k true few is long = grind (arith, nat_tests)
one_more n l m k false few is long = grind (arith, nat_tests)

-- where the first stands that passes, in a list with one more
pub position_push : {T : Type 0} (p : T → Bool) (xs : List T) (y : T) → position p (xs ++ y ∷ []) ≡ option_or (position p xs) (cond (p y) (Some (length xs)) None)
position_push p xs y =
    one_more (position_or_len p xs) (length xs) (position_or_len p (xs ++ y ∷ [])) (length (xs ++ y ∷ [])) (p y)
    (prefix_len-le-length (λ x. not (p x)) xs) (position_or_len_push p xs y) (length-append xs (y ∷ []))

some_place : (b : Bool) (n : ℕ) → is_some (cond b (Some n) None) ≡ b
some_place true n = refl
some_place false n = refl

stands_first : (l : ℕ) → nat_lt 0 (suc l) ≡ true
stands_first l = grind (arith, nat_tests)

stands_later : (n l : ℕ) → nat_lt (1 + n) (suc l) ≡ nat_lt n l
stands_later n l = grind (arith, nat_tests)

stands_within : {T : Type 0} (p : T → Bool) (xs : List T) → nat_lt (position_or_len p xs) (length xs) ≡ list_any p xs
stands_within p [] = refl
stands_within {T} p (x ∷ xs) =
    let P : Bool → Type 0 = λ b. nat_lt (cond (not b) (1 + position_or_len p xs) 0) (suc (length xs)) ≡ (b || list_any p xs) in
    elim (p x) as P [ true ↦ stands_first (length xs) | false ↦ stands_later (position_or_len p xs) (length xs) ∙ stands_within p xs ]

-- one passes where a place is told
pub some_passes : {T : Type 0} (p : T → Bool) (xs : List T) → is_some (position p xs) ≡ list_any p xs
some_passes p xs = some_place (nat_lt (position_or_len p xs) (length xs)) (position_or_len p xs) ∙ stands_within p xs

tests : (x a : ℕ) → is_eq (nat_cmp x a) ≡ (x == a)
tests x a = grind (arith, nat_tests)

both : (o r : Ordering) → is_eq (ordering_then o r) ≡ (is_eq o && is_eq r)
both Less r = refl
both Equal r = refl
both Greater r = refl

-- a place is one of a pair that has these numbers
same_test : (first second : ℕ) (place : PairPlace) → is_of first second place ≡ has_pair first second (place.first, place.second)
same_test first second place =
    both (nat_cmp place.first first) (nat_cmp place.second second)
    ∙ ap (λ b. b && is_eq (nat_cmp place.second second)) (tests place.first first)
    ∙ ap (λ b. place.first == first && b) (tests place.second second)

is_Equal : (o : Ordering) → is_eq o ≡ true → o ≡ Equal
is_Equal Less e = cc e
is_Equal Equal e = refl
is_Equal Greater e = cc e

-- what is of a place's pair is of the pair that the place is of
same_pair : (first second : ℕ) (place : PairPlace) → is_of first second place ≡ true → (x : PairPlace) → is_of first second x ≡ is_of place.first place.second x
same_pair first second place is x = ap is_eq (sym (alike_right place_cmp_total place (key first second) x (is_Equal (place_cmp place (key first second)) is)))

untied : (o : Ordering) → is_eq o ≡ false → o ≢ Equal
untied o fails same = let is = ap is_eq same in cc (fails, is)

pub free_for : (place : PairPlace) (places : List PairPlace) → NonePass (is_of place.first place.second) places → All (λ other. place_cmp other place ≢ Equal) places
free_for place [] none = λ k d below. absurd (omega arith)
free_for place (x ∷ xs) none = All-cons (λ other. place_cmp other place ≢ Equal) x xs (untied (place_cmp x place) none.0) (free_for place xs none.1)

abbrev told : Option PairPlace → Option ℕ
told found = option_map (λ p. p.at) found

or_none : (o : Option ℕ) → o ≡ option_or o None
or_none None = refl
or_none (Some n) = refl

known_stays : (o : Option PairPlace) (more : Option ℕ) → is_some o ≡ true → told o ≡ option_or (told o) more
known_stays None more is = cc is
known_stays (Some p) more is = refl

pub is_none : {T : Type 0} (o : Option T) → is_some o ≡ false → o ≡ None
is_none None e = refl
is_none (Some x) e = cc e

-- what is told of a pair once a place is noted
told_noted : (first second : ℕ) (place : PairPlace) (places : List PairPlace)
    → told (find (is_of first second) (noted place places))
    ≡ option_or (told (find (is_of first second) places)) (cond (has_pair first second (place.first, place.second)) (Some place.at) None)
told_noted first second place places =
    let own = find (is_of place.first place.second) places in
    let found = find (is_of first second) places in
    let put = put_in_order place_cmp place places in
    let has = has_pair first second (place.first, place.second) in
    let alike : is_of first second place ≡ true → found ≡ own = λ is. find_alike (is_of first second) (is_of place.first place.second) (same_pair first second place is) places in
    let P : Bool → Type 0 = λ b. is_some own ≡ b → told (find (is_of first second) (cond b places put)) ≡ option_or (told found) (cond has (Some place.at) None) in
    let Known : Bool → Type 0 = λ h. is_of first second place ≡ h → is_some own ≡ true → told found ≡ option_or (told found) (cond h (Some place.at) None) in
    let New : Bool → Type 0 = λ h. is_of first second place ≡ h → own ≡ None → told (find (is_of first second) put) ≡ option_or (told found) (cond h (Some place.at) None) in
    let known = elim (is_of first second place) as Known [
      | true ↦ λ is some. known_stays found (Some place.at) (ap is_some (alike is) ∙ some)
      | false ↦ λ is some. or_none (told found)
    ] refl in
    let new = elim (is_of first second place) as New [
      | true ↦ λ is none.
          ap told (find_put_here place_cmp (is_of first second) place places is (none_found (is_of first second) places (alike is ∙ none)))
          ∙ sym (ap (λ o. option_or (told o) (Some place.at)) (alike is ∙ none))
      | false ↦ λ is none. ap told (find_put_other place_cmp (is_of first second) place places is) ∙ or_none (told found)
    ] refl in
    let same = same_test first second place in
    elim (is_some own) as P [
      | true ↦ λ some. known some ∙ ap (λ h. option_or (told found) (cond h (Some place.at) None)) same
      | false ↦ λ some. new (is_none own some) ∙ ap (λ h. option_or (told found) (cond h (Some place.at) None)) same
    ] refl

-- an item more, and its place
pub told_more : {T : Type 0} (pair_of : T → ℕ × ℕ) (places : List PairPlace) (items : List T) (item : T) (place : PairPlace)
    → (place.first, place.second) ≡ pair_of item → place.at ≡ length items → Tells pair_of places items → Tells pair_of (noted place places) (items ++ item ∷ [])
told_more {T} pair_of places items item place pair at tells = λ first second.
    let p = λ (i : T). has_pair first second (pair_of i) in
    told_noted first second place places
    ∙ ap (λ o. option_or o (cond (has_pair first second (place.first, place.second)) (Some place.at) None)) (tells first second)
    ∙ ap (λ q. option_or (position p items) (cond (has_pair first second q) (Some place.at) None)) pair
    ∙ ap (λ n. option_or (position p items) (cond (p item) (Some n) None)) at
    ∙ sym (position_push p items item)
