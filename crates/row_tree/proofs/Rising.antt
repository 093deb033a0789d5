-- Rows in their order: a search in them, and what an edit leaves.
use Rattle.std.proofs.Common.{◌≡◌, ◌≢◌, Bool, true, false, cond, not, List, [], ◌∷◌, filter, Option, Some, None, refl, sym, ap, ◌∙◌, subst}
use Rattle.std.specs.Cmp.{IsTotalOrder}
use Rattle.std.specs.List.{All, find}
use Rattle.std.specs.Option.{option_map_or}
use Rattle.std.specs.Ordering.{is_lt, is_eq, ordering_reverse}
use Rattle.std.specs.declared.cmp.Ordering.{Ordering}
use Rattle.std.specs.declared.cmp.Ordering.TheVariants.{Less, Equal, Greater}
use Rattle.std.proofs.lemmas.List.Elements.{All-head, All-tail}
use Rattle.row_tree.specs.Bounds.{Falls}
use Rattle.row_tree.specs.Order.{IsBeforeAll, IsRising, put_in_order, without_first}
use Rattle.row_tree.specs.Split.{NonePass, IsSplit}

pub fails_after : (o p : Ordering) → (p ≢ Greater → o ≡ Less) → is_lt o ≡ false → p ≡ Greater
fails_after o Less falls late = let less = falls (λ e. cc e) in cc
fails_after o Equal falls late = let less = falls (λ e. cc e) in cc
fails_after o Greater falls late = refl

pub none_after : {T : Type 0} {order : T → T → Ordering} (standing : T → Ordering) → Falls order standing → (x : T) (xs : List T) → is_lt (standing x) ≡ false → IsBeforeAll order x xs
    → NonePass (λ y. is_lt (standing y)) xs
none_after standing falls x [] late before = tt
none_after standing falls x (y ∷ ys) late before =
    (ap is_lt (fails_after (standing x) (standing y) (falls x y before.0) late), none_after standing falls x ys late before.1)

-- in rows in their order those before a bound stand first
pub split_from_rising : {T : Type 0} {order : T → T → Ordering} (standing : T → Ordering) → Falls order standing → (xs : List T) → IsRising order xs
    → IsSplit (λ y. is_lt (standing y)) xs
split_from_rising standing falls [] rising = tt
split_from_rising standing falls (x ∷ xs) rising = (λ late. none_after standing falls x xs late rising.0, split_from_rising standing falls xs rising.1)

-- none stands at a bound past a row that does not stand before it
pub all_kept : {T : Type 0} {order : T → T → Ordering} (standing : T → Ordering) → Falls order standing → (x : T) (xs : List T) → is_lt (standing x) ≡ false → IsBeforeAll order x xs
    → filter (λ y. not (is_eq (standing y))) xs ≡ xs
all_kept standing falls x [] late before = refl
all_kept standing falls x (y ∷ ys) late before =
    let past : standing y ≡ Greater = fails_after (standing x) (standing y) (falls x y before.0) late in
    ap (λ o. cond (not (is_eq o)) (y ∷ filter (λ z. not (is_eq (standing z))) ys) (filter (λ z. not (is_eq (standing z))) ys)) past
    ∙ ap (λ zs. y ∷ zs) (all_kept standing falls x ys late before.1)

pub none_found : {T : Type 0} {order : T → T → Ordering} (standing : T → Ordering) → Falls order standing → (x : T) (xs : List T) → is_lt (standing x) ≡ false → IsBeforeAll order x xs
    → find (λ y. is_eq (standing y)) xs ≡ None
none_found standing falls x [] late before = refl
none_found standing falls x (y ∷ ys) late before =
    let past : standing y ≡ Greater = fails_after (standing x) (standing y) (falls x y before.0) late in
    ap (λ o. cond (is_eq o) (Some y) (find (λ z. is_eq (standing z)) ys)) past ∙ none_found standing falls x ys late before.1

-- whether a row stands at the bound
abbrev pub is_there : {T : Type 0} → (T → Ordering) → Option T → Bool
is_there standing found = option_map_or (λ y. is_eq (standing y)) found false

abbrev pub Taken : {T : Type 0} → (found at : Option T) (left kept xs : List T) → Bool → Type 0
Taken found at left kept xs true = (found ≡ at) × (left ≡ kept)
Taken found at left kept xs false = (at ≡ None) × (kept ≡ xs)

goes_on : {T : Type 0} (x : T) (found at : Option T) (left kept xs : List T) (b : Bool) → Taken found at left kept xs b → Taken found at (x ∷ left) (x ∷ kept) (x ∷ xs) b
goes_on x found at left kept xs true t = (t.0, ap (λ zs. x ∷ zs) t.1)
goes_on x found at left kept xs false t = (t.0, ap (λ zs. x ∷ zs) t.1)

-- what a take at a bound leaves
pub taken : {T : Type 0} {order : T → T → Ordering} (standing : T → Ordering) → Falls order standing → (xs : List T) → IsRising order xs
    → Taken (find (λ y. not (is_lt (standing y))) xs) (find (λ y. is_eq (standing y)) xs) (without_first (λ y. not (is_lt (standing y))) xs)
    (filter (λ y. not (is_eq (standing y))) xs) xs (is_there standing (find (λ y. not (is_lt (standing y))) xs))
taken standing falls [] rising = (refl, refl)
taken {T} {order} standing falls (x ∷ xs) rising =
    let F = find (λ y. not (is_lt (standing y))) xs in
    let E = find (λ y. is_eq (standing y)) xs in
    let W = without_first (λ y. not (is_lt (standing y))) xs in
    let K = filter (λ y. not (is_eq (standing y))) xs in
    let P : Ordering → Type 0 = λ o. standing x ≡ o → Taken (cond (not (is_lt o)) (Some x) F) (cond (is_eq o) (Some x) E) (cond (not (is_lt o)) xs (x ∷ W))
    (cond (not (is_eq o)) (x ∷ K) K) (x ∷ xs) (is_there standing (cond (not (is_lt o)) (Some x) F)) in
    elim (standing x) as P [
      | Less ↦ λ e. goes_on x F E W K xs (is_there standing F) (taken standing falls xs rising.1)
      | Equal ↦ λ e.
          let Q : Bool → Type 0 = λ b. Taken (Some x) (Some x) xs K (x ∷ xs) b in
          subst Q (sym (ap is_eq e)) (refl, sym (all_kept standing falls x xs (ap is_lt e) rising.0))
      | Greater ↦ λ e.
          let Q : Bool → Type 0 = λ b. Taken (Some x) E xs (x ∷ K) (x ∷ xs) b in
          subst Q (sym (ap is_eq e)) (none_found standing falls x xs (ap is_lt e) rising.0, ap (λ zs. x ∷ zs) (all_kept standing falls x xs (ap is_lt e) rising.0))
    ] refl

before_put : {T : Type 0} (order : T → T → Ordering) (y x : T) (xs : List T) → order y x ≡ Less → IsBeforeAll order y xs → IsBeforeAll order y (put_in_order order x xs)
before_put order y x [] less before = (less, tt)
before_put order y x (z ∷ zs) less before =
    let P : Bool → Type 0 = λ b. IsBeforeAll order y (cond b (z ∷ put_in_order order x zs) (x ∷ z ∷ zs)) in
    elim (is_lt (order z x)) as P [ true ↦ (before.0, before_put order y x zs less before.1) | false ↦ (less, before) ]

before_all : {T : Type 0} {order : T → T → Ordering} → IsTotalOrder order → (x y : T) (ys : List T) → order x y ≡ Less → IsBeforeAll order y ys → IsBeforeAll order x ys
before_all total x y [] less before = tt
before_all total x y (z ∷ zs) less before = (total.trans x y z less before.0, before_all total x y zs less before.1)

turned : (o r : Ordering) → is_lt o ≡ false → o ≢ Equal → r ≡ ordering_reverse o → r ≡ Less
turned Less r late untied back = cc late
turned Equal r late untied back = absurd (untied refl)
turned Greater r late untied back = back

is_Less : (o : Ordering) → is_lt o ≡ true → o ≡ Less
is_Less Less e = refl
is_Less Equal e = cc e
is_Less Greater e = cc e

-- rows stay in their order with one more that ties with none
pub rising_put : {T : Type 0} {order : T → T → Ordering} → IsTotalOrder order → (x : T) (xs : List T) → All (λ y. order y x ≢ Equal) xs → IsRising order xs
    → IsRising order (put_in_order order x xs)
rising_put total x [] free rising = (tt, tt)
rising_put {T} {order} total x (y ∷ ys) free rising =
    let P : Bool → Type 0 = λ b. is_lt (order y x) ≡ b → IsRising order (cond b (y ∷ put_in_order order x ys) (x ∷ y ∷ ys)) in
    let first = All-head (λ z. order z x ≢ Equal) y ys free in
    let rest = All-tail (λ z. order z x ≢ Equal) y ys free in
    elim (is_lt (order y x)) as P [
      | true ↦ λ e. (before_put order y x ys (is_Less _ e) rising.0, rising_put total x ys rest rising.1)
      | false ↦ λ e. let less : order x y ≡ Less = turned (order y x) (order x y) e first (total.antisymm x y) in ((less, before_all total x y ys less rising.0), rising)
    ] refl

before_kept : {T : Type 0} (order : T → T → Ordering) (y : T) (p : T → Bool) (xs : List T) → IsBeforeAll order y xs → IsBeforeAll order y (filter p xs)
before_kept order y p [] before = tt
before_kept order y p (x ∷ xs) before =
    let P : Bool → Type 0 = λ b. IsBeforeAll order y (cond b (x ∷ filter p xs) (filter p xs)) in
    elim (p x) as P [ true ↦ (before.0, before_kept order y p xs before.1) | false ↦ before_kept order y p xs before.1 ]

-- rows stay in their order with some less
pub rising_kept : {T : Type 0} (order : T → T → Ordering) (p : T → Bool) (xs : List T) → IsRising order xs → IsRising order (filter p xs)
rising_kept order p [] rising = tt
rising_kept order p (x ∷ xs) rising =
    let P : Bool → Type 0 = λ b. IsRising order (cond b (x ∷ filter p xs) (filter p xs)) in
    elim (p x) as P [ true ↦ (before_kept order x p xs rising.0, rising_kept order p xs rising.1) | false ↦ rising_kept order p xs rising.1 ]
