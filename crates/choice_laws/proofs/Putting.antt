-- Rows that are put in their order one by one: which of them a test finds first, what a test keeps, and that it does not matter which is put first.
use Rattle.std.proofs.Common.{◌≡◌, ◌≢◌, Bool, true, false, cond, List, [], ◌∷◌, filter, Option, Some, None, refl, sym, ap, ◌∙◌}
use Rattle.std.proofs.lemmas.Bool.{false≢true}
use Rattle.std.specs.Cmp.{IsTotalOrder}
use Rattle.std.specs.List.{AllByRecursion, find}
use Rattle.std.specs.Ordering.{is_lt, ordering_reverse}
use Rattle.std.specs.declared.cmp.Ordering.{Ordering}
use Rattle.std.specs.declared.cmp.Ordering.TheVariants.{Less, Equal, Greater}
use Rattle.row_tree.specs.Order.{IsBeforeAll, IsRising, put_in_order}

-- ---- what holds of each

-- it is so of the item, where there is one
abbrev pub HoldsOf : {T : Type 0} → (T → Type 0) → Option T → Type 0
HoldsOf P None = Unit {0}
HoldsOf P (Some x) = P x

module _ {T : Type 0} (P : T → Type 0) where
  pub all_put : (order : T → T → Ordering) (x : T) (xs : List T) → P x → AllByRecursion P xs → AllByRecursion P (put_in_order order x xs)
  all_put order x [] h k = (h, tt)
  all_put order x (y ∷ ys) h k =
      let Q : Bool → Type 0 = λ b. AllByRecursion P (cond b (y ∷ put_in_order order x ys) (x ∷ y ∷ ys)) in
      elim (is_lt (order y x)) as Q [ true ↦ (k.0, all_put order x ys h k.1) | false ↦ (h, k) ]

  pub all_found : (p : T → Bool) (xs : List T) → AllByRecursion P xs → HoldsOf P (find p xs)
  all_found p [] k = tt
  all_found p (x ∷ xs) k =
      let Q : Bool → Type 0 = λ b. HoldsOf P (cond b (Some x) (find p xs)) in
      elim (p x) as Q [ true ↦ k.0 | false ↦ all_found p xs k.1 ]

  pub all_kept : (p : T → Bool) (xs : List T) → AllByRecursion P xs → AllByRecursion P (filter p xs)
  all_kept p [] k = tt
  all_kept p (x ∷ xs) k =
      let Q : Bool → Type 0 = λ b. AllByRecursion P (cond b (x ∷ filter p xs) (filter p xs)) in
      elim (p x) as Q [ true ↦ (k.0, all_kept p xs k.1) | false ↦ all_kept p xs k.1 ]

  pub all_weaker : (Q : T → Type 0) → ((x : T) → P x → Q x) → (xs : List T) → AllByRecursion P xs → AllByRecursion Q xs
  all_weaker Q f [] k = tt
  all_weaker Q f (x ∷ xs) k = (f x k.0, all_weaker Q f xs k.1)

-- what all pass is kept whole
pub kept_whole : {T : Type 0} (p : T → Bool) (xs : List T) → AllByRecursion (λ x. p x ≡ true) xs → filter p xs ≡ xs
kept_whole p [] k = refl
kept_whole p (x ∷ xs) k = ap (λ b. cond b (x ∷ filter p xs) (filter p xs)) k.0 ∙ ap (λ ys. x ∷ ys) (kept_whole p xs k.1)

-- ---- where a row is put

module _ {T : Type 0} (order : T → T → Ordering) where
  put_past : (x y : T) (ys : List T) → is_lt (order y x) ≡ true → put_in_order order x (y ∷ ys) ≡ y ∷ put_in_order order x ys
  put_past x y ys e = ap (λ b. cond b (y ∷ put_in_order order x ys) (x ∷ y ∷ ys)) e

  put_here : (x y : T) (ys : List T) → is_lt (order y x) ≡ false → put_in_order order x (y ∷ ys) ≡ x ∷ y ∷ ys
  put_here x y ys e = ap (λ b. cond b (y ∷ put_in_order order x ys) (x ∷ y ∷ ys)) e

  -- the row, or one that stands before it
  abbrev pub earlier_of : T → Option T → Option T
  earlier_of x None = Some x
  earlier_of x (Some y) = cond (is_lt (order y x)) (Some y) (Some x)

  -- none stands before the row
  abbrev IsFirst : T → List T → Type 0
  IsFirst x xs = AllByRecursion (λ y. is_lt (order y x) ≡ false) xs

  first_found : (p : T → Bool) (x : T) (xs : List T) → IsFirst x xs → earlier_of x (find p xs) ≡ Some x
  first_found p x [] k = refl
  first_found p x (y ∷ ys) k =
      let Q : Bool → Type 0 = λ b. earlier_of x (cond b (Some y) (find p ys)) ≡ Some x in
      elim (p y) as Q [ true ↦ ap (λ b. cond b (Some y) (Some x)) k.0 | false ↦ first_found p x ys k.1 ]

  put_first : (x : T) (xs : List T) → IsFirst x xs → put_in_order order x xs ≡ x ∷ xs
  put_first x [] k = refl
  put_first x (y ∷ ys) k = put_here x y ys k.0

  finds_past : (x y : T) (f : Option T) → is_lt (order y x) ≡ true → (b c : Bool)
      → cond c (Some y) (cond b (earlier_of x f) f) ≡ cond b (earlier_of x (cond c (Some y) f)) (cond c (Some y) f)
  finds_past x y f e true true = sym (ap (λ b. cond b (Some y) (Some x)) e)
  finds_past x y f e true false = refl
  finds_past x y f e false true = refl
  finds_past x y f e false false = refl

  keeps_past : (x y : T) (ks : List T) → is_lt (order y x) ≡ true → (b c : Bool)
      → cond c (y ∷ cond b (put_in_order order x ks) ks) (cond b (put_in_order order x ks) ks)
      ≡ cond b (put_in_order order x (cond c (y ∷ ks) ks)) (cond c (y ∷ ks) ks)
  keeps_past x y ks e true true = sym (put_past x y ks e)
  keeps_past x y ks e true false = refl
  keeps_past x y ks e false true = refl
  keeps_past x y ks e false false = refl

module _ {T : Type 0} {order : T → T → Ordering} (total : IsTotalOrder order) where
  not_less_later : (x y z : T) → is_lt (order y x) ≡ false → order y z ≡ Less → is_lt (order z x) ≡ false
  not_less_later x y z late less =
      let Q : Ordering → Type 0 = λ o. order z x ≡ o → is_lt o ≡ false in
      elim (order z x) as Q [
        | Less ↦ λ e. sym (ap is_lt (total.trans y z x less e)) ∙ late
        | Equal ↦ λ e. refl
        | Greater ↦ λ e. refl
      ] refl

  first_of_rising : (x y : T) (ys : List T) → is_lt (order y x) ≡ false → IsBeforeAll order y ys → AllByRecursion (λ z. is_lt (order z x) ≡ false) ys
  first_of_rising x y [] late before = tt
  first_of_rising x y (z ∷ zs) late before = (not_less_later x y z late before.0, first_of_rising x y zs late before.1)

  -- the first that passes, once a row was put in
  pub find_put : (p : T → Bool) (x : T) (xs : List T) → IsRising order xs → find p (put_in_order order x xs) ≡ cond (p x) (earlier_of order x (find p xs)) (find p xs)
  find_put p x [] rising = refl
  find_put p x (y ∷ ys) rising =
      let there : Option T = cond (p y) (Some y) (find p ys) in
      let Q : Bool → Type 0 = λ b. is_lt (order y x) ≡ b → find p (cond b (y ∷ put_in_order order x ys) (x ∷ y ∷ ys)) ≡ cond (p x) (earlier_of order x there) there in
      elim (is_lt (order y x)) as Q [
        | true ↦ λ e. ap (λ o. cond (p y) (Some y) o) (find_put p x ys rising.1) ∙ finds_past order x y (find p ys) e (p x) (p y)
        | false ↦ λ e. ap (λ o. cond (p x) o there) (sym (first_found order p x (y ∷ ys) (e, first_of_rising x y ys e rising.0)))
      ] refl

  -- those that pass, once a row was put in
  pub filter_put : (p : T → Bool) (x : T) (xs : List T) → IsRising order xs → filter p (put_in_order order x xs) ≡ cond (p x) (put_in_order order x (filter p xs)) (filter p xs)
  filter_put p x [] rising = refl
  filter_put p x (y ∷ ys) rising =
      let kept : List T = cond (p y) (y ∷ filter p ys) (filter p ys) in
      let F : T → Type 0 = λ z. is_lt (order z x) ≡ false in
      let Q : Bool → Type 0 = λ b. is_lt (order y x) ≡ b → filter p (cond b (y ∷ put_in_order order x ys) (x ∷ y ∷ ys)) ≡ cond (p x) (put_in_order order x kept) kept in
      elim (is_lt (order y x)) as Q [
        | true ↦ λ e. ap (λ zs. cond (p y) (y ∷ zs) zs) (filter_put p x ys rising.1) ∙ keeps_past order x y (filter p ys) e (p x) (p y)
        | false ↦ λ e. ap (λ zs. cond (p x) zs kept) (sym (put_first order x kept (all_kept F p (y ∷ ys) (e, first_of_rising x y ys e rising.0))))
      ] refl

  -- ---- two rows

  reversed : (x y : T) → order x y ≡ Less → is_lt (order y x) ≡ false
  reversed x y less = ap is_lt (total.antisymm y x) ∙ ap (λ o. is_lt (ordering_reverse o)) less

  swap_at : (x y z : T) (zs : List T) → order x y ≡ Less → put_in_order order x (put_in_order order y zs) ≡ put_in_order order y (put_in_order order x zs)
      → (a b : Bool) → is_lt (order z x) ≡ a → is_lt (order z y) ≡ b → (a ≡ true → b ≡ true)
      → put_in_order order x (put_in_order order y (z ∷ zs)) ≡ put_in_order order y (put_in_order order x (z ∷ zs))
  swap_at x y z zs less ih true true e f both =
      ap (put_in_order order x) (put_past order y z zs f) ∙ put_past order x z (put_in_order order y zs) e ∙ ap (λ l. z ∷ l) ih
      ∙ sym (ap (put_in_order order y) (put_past order x z zs e) ∙ put_past order y z (put_in_order order x zs) f)
  swap_at x y z zs less ih true false e f both = absurd (false≢true (both refl))
  swap_at x y z zs less ih false true e f both =
      ap (put_in_order order x) (put_past order y z zs f) ∙ put_here order x z (put_in_order order y zs) e
      ∙ sym (ap (put_in_order order y) (put_here order x z zs e) ∙ put_past order y x (z ∷ zs) (ap is_lt less) ∙ ap (λ l. x ∷ l) (put_past order y z zs f))
  swap_at x y z zs less ih false false e f both =
      ap (put_in_order order x) (put_here order y z zs f) ∙ put_here order x y (z ∷ zs) (reversed x y less)
      ∙ sym (ap (put_in_order order y) (put_here order x z zs e) ∙ put_past order y x (z ∷ zs) (ap is_lt less) ∙ ap (λ l. x ∷ l) (put_here order y z zs f))

  less_through : (x y z : T) → order x y ≡ Less → is_lt (order z x) ≡ true → is_lt (order z y) ≡ true
  less_through x y z less before =
      let Q : Ordering → Type 0 = λ o. order z x ≡ o → is_lt o ≡ true → is_lt (order z y) ≡ true in
      elim (order z x) as Q [
        | Less ↦ λ e h. ap is_lt (total.trans z x y e less)
        | Equal ↦ λ e h. absurd (false≢true h)
        | Greater ↦ λ e h. absurd (false≢true h)
      ] refl before

  swap_less : (x y : T) (zs : List T) → order x y ≡ Less → put_in_order order x (put_in_order order y zs) ≡ put_in_order order y (put_in_order order x zs)
  swap_less x y [] less = put_here order x y [] (reversed x y less) ∙ sym (put_past order y x [] (ap is_lt less))
  swap_less x y (z ∷ zs) less = swap_at x y z zs less (swap_less x y zs less) (is_lt (order z x)) (is_lt (order z y)) refl refl (less_through x y z less)

  -- of two rows that do not tie either may be put in first
  pub put_either : (x y : T) (zs : List T) → order x y ≢ Equal → put_in_order order x (put_in_order order y zs) ≡ put_in_order order y (put_in_order order x zs)
  put_either x y zs untied =
      let Q : Ordering → Type 0 = λ o. order x y ≡ o → put_in_order order x (put_in_order order y zs) ≡ put_in_order order y (put_in_order order x zs) in
      elim (order x y) as Q [
        | Less ↦ λ e. swap_less x y zs e
        | Equal ↦ λ e. absurd (untied e)
        | Greater ↦ λ e. sym (swap_less y x zs (total.antisymm y x ∙ ap ordering_reverse e))
      ] refl
