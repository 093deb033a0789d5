-- What stands where a search stops, by what stands there on one side of a root; and what a change makes of the row that stands there.
use Rattle.std.proofs.Common.{◌≡◌, ℕ, ◌+◌, ◌-◌, ◌<◌, ◌≤◌, suc, zero, Bool, true, false, cond, not, List, [], ◌∷◌, ◌++◌, filter, insert, length, slice_get, Option, Some, None, IsSome, IfSome, refl, sym, ap, ◌∙◌, arith}
use Rattle.std.specs.Cmp.{IsTotalOrder}
use Rattle.std.specs.List.{prefix_len}
use Rattle.std.specs.Option.{option_map, option_map_or, option_to_list}
use Rattle.std.specs.Ordering.{is_lt, is_eq}
use Rattle.std.specs.declared.cmp.Ordering.{Ordering}
use Rattle.std.specs.declared.cmp.Ordering.TheVariants.{Less, Equal, Greater}
use Rattle.std.proofs.lemmas.List.Sums.{prefix_len-le-length}
use Rattle.std.proofs.lemmas.Cmp.{alike_right, tied_itself}
use Rattle.row_tree.specs.Bounds.{Falls}
use Rattle.row_tree.specs.Changes.{change_where, set_in_order}
use Rattle.row_tree.specs.Edits.{edit_at}
use Rattle.row_tree.specs.Free.{none_at}
use Rattle.row_tree.specs.Order.{IsBeforeAll, IsRising, less_by}
use Rattle.row_tree.specs.Split.{IsSplit, NonePass}
use Rattle.row_tree.proofs.Edited.{edit_later}
use Rattle.row_tree.proofs.Rising.{all_kept, fails_after, none_after, rising_kept, rising_put}
use Rattle.row_tree.proofs.Places.{put_there}
use Rattle.row_tree.proofs.Sides.{get_append_right}

pub get_left_of : {T : Type 0} (l r : List T) (at : ℕ) → at < length l → slice_get (l ++ r) at ≡ slice_get l at
get_left_of [] r at below = absurd (omega arith)
get_left_of (x ∷ xs) r zero below = refl
get_left_of (x ∷ xs) r (suc i) below = get_left_of xs r i (omega arith)

pub get_root_of : {T : Type 0} (l : List T) (k : T) (r : List T) (at : ℕ) → at ≡ length l → slice_get (l ++ (k ∷ r)) at ≡ Some k
get_root_of l k r at here = let e : at ≡ length l + 0 = omega arith in ap (slice_get (l ++ (k ∷ r))) e ∙ get_append_right l (k ∷ r) 0

pub get_right_of : {T : Type 0} (l : List T) (k : T) (r : List T) (at i : ℕ) → at ≡ length l + 1 + i → slice_get (l ++ (k ∷ r)) at ≡ slice_get r i
get_right_of l k r at i here = let e : at ≡ length l + suc i = omega arith in ap (slice_get (l ++ (k ∷ r))) e ∙ get_append_right l (k ∷ r) (suc i)

-- ---- the same of a root whose row may be missing

pub side_left : {T : Type 0} (xs l r : List T) (row : Option T) (at : ℕ) → xs ≡ l ++ (option_to_list row ++ r) → at < length l → slice_get xs at ≡ slice_get l at
side_left xs l r row at is below = rw is (get_left_of l (option_to_list row ++ r) at below)

pub side_right : {T : Type 0} (xs l r : List T) (row : Option T) (at : ℕ) → IsSome row → xs ≡ l ++ (option_to_list row ++ r) → length l < at
    → slice_get xs at ≡ slice_get r (at - length l - 1)
side_right xs l r None at some is past = cc some
side_right xs l r (Some k) at some is past = rw is (get_right_of l k r at (at - length l - 1) (omega arith))

pub side_root : {T : Type 0} (xs l r : List T) (row : Option T) (at : ℕ) → IsSome row → xs ≡ l ++ (option_to_list row ++ r) → at ≡ length l → slice_get xs at ≡ row
side_root xs l r None at some is here = cc some
side_root xs l r (Some k) at some is here = rw is (get_root_of l k r at here)

-- ---- a change of the row at a bound

-- behind a row that does not stand before the bound none stands at it
none_changed : {T : Type 0} {order : T → T → Ordering} (standing : T → Ordering) → Falls order standing → (f : T → T) (x : T) (xs : List T) → is_lt (standing x) ≡ false → IsBeforeAll order x xs
    → change_where (λ y. is_eq (standing y)) f xs ≡ xs
none_changed standing falls f x [] late before = refl
none_changed standing falls f x (y ∷ ys) late before =
    let past : standing y ≡ Greater = fails_after (standing x) (standing y) (falls x y before.0) late in
    ap (λ o. cond (is_eq o) (f y) y ∷ change_where (λ z. is_eq (standing z)) f ys) past ∙ ap (λ zs. y ∷ zs) (none_changed standing falls f x ys late before.1)

one_on : (n : ℕ) → 1 + n ≡ suc n
one_on n = omega arith

pub changed_there : {T : Type 0} {order : T → T → Ordering} (standing : T → Ordering) → Falls order standing → (f : T → T) (xs : List T) → IsRising order xs → (at : ℕ)
    → at ≡ prefix_len (λ y. is_lt (standing y)) xs → option_map_or (λ y. is_eq (standing y)) (slice_get xs at) false ≡ true
    → edit_at xs at f ≡ change_where (λ y. is_eq (standing y)) f xs
changed_there standing falls f [] rising at here there = cc there
changed_there {T} standing falls f (x ∷ xs) rising at here there =
    let n = prefix_len (λ y. is_lt (standing y)) xs in
    let rest = change_where (λ y. is_eq (standing y)) f xs in
    let P : Ordering → Type 0 = λ o. standing x ≡ o → at ≡ cond (is_lt o) (1 + n) 0 → edit_at (x ∷ xs) at f ≡ cond (is_eq o) (f x) x ∷ rest in
    elim (standing x) as P [
      | Less ↦ λ e h.
          let later : at ≡ suc n = h ∙ one_on n in
          let still = ap (λ i. option_map_or (λ y. is_eq (standing y)) (slice_get (x ∷ xs) i) false) (sym later) ∙ there in
          ap (λ i. edit_at (x ∷ xs) i f) later ∙ edit_later x xs n f ∙ ap (λ zs. x ∷ zs) (changed_there standing falls f xs rising.1 n refl still)
      | Equal ↦ λ e h. ap (λ i. edit_at (x ∷ xs) i f) h ∙ ap (λ zs. f x ∷ zs) (sym (none_changed standing falls f x xs (ap is_lt e) rising.0))
      | Greater ↦ λ e h.
          let own = sym (ap is_eq e) ∙ ap (λ i. option_map_or (λ y. is_eq (standing y)) (slice_get (x ∷ xs) i) false) (sym h) ∙ there in
          cc own
    ] refl here

-- ---- what leaves how rows stand to others leaves them in their order

module _ {T : Type 0} {order : T → T → Ordering} (total : IsTotalOrder order) (f : T → T) (stays : (x : T) → order x (f x) ≡ Equal) (p : T → Bool) where
  stands : (b : Bool) (x : T) → order x (cond b (f x) x) ≡ Equal
  stands true x = stays x
  stands false x = tied_itself total x

  before_changed : (x y : T) (ys : List T) → order x y ≡ Equal → IsBeforeAll order x ys → IsBeforeAll order y (change_where p f ys)
  before_changed x y [] tie before = tt
  before_changed x y (z ∷ zs) tie before =
      let w = cond (p z) (f z) z in
      let first : order y w ≡ Less = sym (alike_right total z w y (stands (p z) z)) ∙ sym (total.congr x y z tie) ∙ before.0 in
      (first, before_changed x y zs tie before.1)

  pub rising_changed : (xs : List T) → IsRising order xs → IsRising order (change_where p f xs)
  rising_changed [] rising = tt
  rising_changed (x ∷ xs) rising = (before_changed x (cond (p x) (f x) x) xs (stands (p x) x) rising.0, rising_changed xs rising.1)

-- ---- a row that is put in place of the one that stands there

none_first : {T : Type 0} (p : T → Bool) (xs : List T) → NonePass p xs → prefix_len p xs ≡ 0
none_first p [] none = refl
none_first p (x ∷ xs) none = ap (λ b. cond b (1 + prefix_len p xs) 0) none.0

-- those that stand before the bound are as many without those at it
pub as_many_before : {T : Type 0} {order : T → T → Ordering} (standing : T → Ordering) → Falls order standing → (xs : List T) → IsRising order xs
    → prefix_len (λ y. is_lt (standing y)) (filter (λ y. not (is_eq (standing y))) xs) ≡ prefix_len (λ y. is_lt (standing y)) xs
as_many_before standing falls [] rising = refl
as_many_before {T} standing falls (x ∷ xs) rising =
    let p : T → Bool = λ y. is_lt (standing y) in
    let kept = filter (λ y. not (is_eq (standing y))) xs in
    let P : Ordering → Type 0 = λ o. standing x ≡ o → prefix_len p (cond (not (is_eq o)) (x ∷ kept) kept) ≡ cond (is_lt o) (1 + prefix_len p xs) 0 in
    elim (standing x) as P [
      | Less ↦ λ e. ap (λ o. cond (is_lt o) (1 + prefix_len p kept) 0) e ∙ ap (λ n. 1 + n) (as_many_before standing falls xs rising.1)
      | Equal ↦ λ e.
          ap (prefix_len p) (all_kept standing falls x xs (ap is_lt e) rising.0) ∙ none_first p xs (none_after standing falls x xs (ap is_lt e) rising.0)
      | Greater ↦ λ e. ap (λ o. cond (is_lt o) (1 + prefix_len p kept) 0) e
    ] refl

pub set_there : {T : Type 0} {order : T → T → Ordering} → IsTotalOrder order → (row : T) (xs : List T) → IsRising order xs → (at : ℕ) (kept : List T)
    → at ≡ prefix_len (λ y. is_lt (order y row)) xs → kept ≡ filter (λ y. not (is_eq (order y row))) xs → insert kept at row ≡ set_in_order order row xs
set_there {T} {order} total row xs rising at kept here is =
    let rest = filter (λ y. not (is_eq (order y row))) xs in
    let same : at ≡ prefix_len (λ y. is_lt (order y row)) rest = here ∙ sym (as_many_before (λ y. order y row) (λ x y. less_by total x y row) xs rising) in
    ap (λ ys. insert ys at row) is ∙ ap (λ n. insert rest n row) same ∙ put_there order row rest

pub set_within : {T : Type 0} {order : T → T → Ordering} → IsTotalOrder order → (row : T) (xs : List T) → IsRising order xs → (at : ℕ) (kept : List T)
    → at ≡ prefix_len (λ y. is_lt (order y row)) xs → kept ≡ filter (λ y. not (is_eq (order y row))) xs → at ≤ length kept
set_within {T} {order} total row xs rising at kept here is =
    let rest = filter (λ y. not (is_eq (order y row))) xs in
    let same : at ≡ prefix_len (λ y. is_lt (order y row)) rest = here ∙ sym (as_many_before (λ y. order y row) (λ x y. less_by total x y row) xs rising) in
    let most = prefix_len-le-length (λ y. is_lt (order y row)) rest in
    let long = ap length is in
    omega arith

pub rising_set : {T : Type 0} {order : T → T → Ordering} → IsTotalOrder order → (row : T) (xs : List T) → IsRising order xs → IsRising order (set_in_order order row xs)
rising_set {T} {order} total row xs rising =
    let p : T → Bool = λ y. not (is_eq (order y row)) in
    rising_put total row (filter p xs) (none_at (λ y. order y row) xs) (rising_kept order p xs rising)

-- what is told of a row that is there
pub told_there : {T U : Type 0} (p : T → Bool) (tells : T → U) (told : U) (found : Option T) → option_map_or p found false ≡ true → IfSome found (λ row. told ≡ tells row)
    → option_map tells found ≡ Some told
told_there p tells told None there is = cc there
told_there p tells told (Some row) there is = ap Some (sym is)

-- ---- what stands first, and last

pub none_ahead : {T : Type 0} (standing : T → Ordering) (xs : List T) (x : T) → slice_get xs 0 ≡ Some x → is_eq (standing x) ≡ true → 0 ≡ prefix_len (λ y. is_lt (standing y)) xs
none_ahead standing [] x first at = cc first
none_ahead {T} standing (y ∷ ys) x first at =
    let same : y ≡ x = cc first in
    let n = prefix_len (λ z. is_lt (standing z)) ys in
    let P : Ordering → Type 0 = λ o. is_eq o ≡ true → 0 ≡ cond (is_lt o) (1 + n) 0 in
    (elim (standing y) as P [ Less ↦ λ e. cc e | Equal ↦ λ e. refl | Greater ↦ λ e. refl ]) (ap (λ z. is_eq (standing z)) same ∙ at)

fails_there : {T : Type 0} (p : T → Bool) (xs : List T) (i : ℕ) (x : T) → NonePass p xs → slice_get xs i ≡ Some x → p x ≡ false
fails_there p [] i x none there = cc there
fails_there p (y ∷ ys) zero x none there = let same : y ≡ x = cc there in ap p (sym same) ∙ none.0
fails_there p (y ∷ ys) (suc i) x none there = fails_there p ys i x none.1 there

pub all_ahead : {T : Type 0} (p : T → Bool) (xs : List T) (i : ℕ) (x : T) → IsSplit p xs → slice_get xs i ≡ Some x → p x ≡ true → length xs ≡ i + 1 → length xs ≡ prefix_len p xs
all_ahead p [] i x split there passes last = cc there
all_ahead p (y ∷ []) zero x split there passes last =
    let same : y ≡ x = cc there in
    ap (λ b. cond b 1 0) (sym (ap p same ∙ passes))
all_ahead p (y ∷ z ∷ zs) zero x split there passes last = absurd (omega arith)
all_ahead {T} p (y ∷ ys) (suc i) x split there passes last =
    let rest : length ys ≡ prefix_len p ys = all_ahead p ys i x split.1 there passes (omega arith) in
    let n = prefix_len p ys in
    let P : Bool → Type 0 = λ b. p y ≡ b → length (y ∷ ys) ≡ cond b (1 + n) 0 in
    elim (p y) as P [
      | true ↦ λ e. omega arith
      | false ↦ λ e. let fails = fails_there p ys i x (split.0 e) there in let both : true ≡ false = sym passes ∙ fails in cc both
    ] refl

pub none_past : {T : Type 0} (xs : List T) → slice_get xs (length xs) ≡ None
none_past [] = refl
none_past (x ∷ xs) = none_past xs

pub got_within : {T : Type 0} (xs : List T) (i : ℕ) (x : T) → slice_get xs i ≡ Some x → i < length xs
got_within [] i x there = cc there
got_within (y ∷ ys) zero x there = omega arith
got_within (y ∷ ys) (suc i) x there = let more = got_within ys i x there in omega arith
