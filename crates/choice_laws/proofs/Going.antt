-- Rows that are gone over one by one.
use Rattle.std.proofs.Common.{◌≡◌, ℤ, Bool, true, false, cond, List, [], ◌∷◌, filter, Option, Some, None, refl, sym, ap, ◌∙◌}
use Rattle.std.proofs.lemmas.Bool.{false≢true}
use Rattle.std.proofs.lemmas.Cmp.{tied_itself}
use Rattle.std.specs.Prelude.{find, slice_get}
use Rattle.std.specs.Cmp.{IsTotalOrder}
use Rattle.std.specs.List.{AllByRecursion}
use Rattle.std.specs.Ordering.{is_gt, is_lt, nat_cmp, ordering_reverse, ordering_then}
use Rattle.std.specs.declared.cmp.Ordering.{Ordering}
use Rattle.std.specs.declared.cmp.Ordering.TheVariants.{Less, Equal, Greater}
use Rattle.row_tree.specs.Order.{IsBeforeAll, IsRising}
use Rattle.place_keys.specs.Place.{place_cmp}
use Rattle.place_keys.specs.PlaceLaws.{place_cmp_exact, place_cmp_total}
use Rattle.choice_laws.specs.Entries.{Row, row_cmp, rows_past}
use Rattle.choice_laws.specs.GoingLaws.{RowsGoOn, from_row, rows_behind}
use Rattle.choice_laws.proofs.Orders.{row_cmp_total}
use Rattle.choice_laws.proofs.Putting.{HoldsOf, all_found, kept_whole}

-- ---- how two rows stand to each other

turned : {T : Type 0} {order : T → T → Ordering} → IsTotalOrder order → (x y : T) → order x y ≡ Less → order y x ≡ Greater
turned total x y less = total.antisymm y x ∙ ap ordering_reverse less

less_back : {T : Type 0} {order : T → T → Ordering} → IsTotalOrder order → (x y : T) → is_gt (order x y) ≡ true → order y x ≡ Less
less_back {T} {order} total x y past =
    let Q : Ordering → Type 0 = λ o. is_gt o ≡ true → ordering_reverse o ≡ Less in
    total.antisymm y x ∙ (elim (order x y) as Q [
      | Less ↦ λ e. absurd (false≢true e)
      | Equal ↦ λ e. absurd (false≢true e)
      | Greater ↦ λ e. refl
    ]) past

greater_is_less : {T : Type 0} {order : T → T → Ordering} → IsTotalOrder order → (x y : T) → is_lt (order x y) ≡ is_gt (order y x)
greater_is_less {T} {order} total x y =
    let Q : Ordering → Type 0 = λ o. is_lt (ordering_reverse o) ≡ is_gt o in
    ap is_lt (total.antisymm x y) ∙ elim (order y x) as Q [ Less ↦ refl | Equal ↦ refl | Greater ↦ refl ]

-- ---- a test that all rows behind one that passes pass

-- what stands behind a row that passes passes
abbrev GoesOn : (Row → Bool) → Type 0
GoesOn p = (x y : Row) → p x ≡ true → row_cmp x y ≡ Less → p y ≡ true

all_later : (p : Row → Bool) → GoesOn p → (x : Row) (xs : List Row) → p x ≡ true → IsBeforeAll row_cmp x xs → AllByRecursion (λ y. p y ≡ true) xs
all_later p goes x [] passes before = tt
all_later p goes x (y ∷ ys) passes before = (goes x y passes before.0, all_later p goes x ys passes before.1)

all_before : (x : Row) (xs : List Row) → IsBeforeAll row_cmp x xs → AllByRecursion (λ y. row_cmp x y ≡ Less) xs
all_before x [] before = tt
all_before x (y ∷ ys) before = (before.0, all_before x ys before.1)

goes_behind : (row : Row) → GoesOn (λ r. is_gt (row_cmp r row))
goes_behind row x y past less = ap is_gt (turned row_cmp_total row y (row_cmp_total.trans row x y (less_back row_cmp_total x row past) less))

all_behind : (x : Row) (xs : List Row) → IsBeforeAll row_cmp x xs → rows_behind x xs ≡ xs
all_behind x xs before = kept_whole (λ r. is_gt (row_cmp r x)) xs (behind xs before)
  where
    behind : (ys : List Row) → IsBeforeAll row_cmp x ys → AllByRecursion (λ r. is_gt (row_cmp r x) ≡ true) ys
    behind [] h = tt
    behind (y ∷ ys) h = (ap is_gt (turned row_cmp_total x y h.0), behind ys h.1)

-- a row is not behind itself, and the others of its list are
own_behind : (x : Row) (xs : List Row) → IsBeforeAll row_cmp x xs → rows_behind x (x ∷ xs) ≡ xs
own_behind x xs before =
    ap (λ o. cond (is_gt o) (x ∷ rows_behind x xs) (rows_behind x xs)) (tied_itself row_cmp_total x) ∙ all_behind x xs before

-- nor is one that stands before it
first_left_out : (x : Row) (xs : List Row) (f : Option Row) → HoldsOf (λ y. row_cmp x y ≡ Less) f → from_row f xs ≡ from_row f (x ∷ xs)
first_left_out x xs None h = refl
first_left_out x xs (Some y) h = sym (ap (λ o. y ∷ cond (is_gt o) (x ∷ rows_behind y xs) (rows_behind y xs)) h)

go_on : (p : Row → Bool) → GoesOn p → (rows : List Row) → IsRising row_cmp rows → filter p rows ≡ from_row (find p rows) rows
go_on p goes [] rising = refl
go_on p goes (x ∷ xs) rising =
    let Q : Bool → Type 0 = λ b. p x ≡ b → cond b (x ∷ filter p xs) (filter p xs) ≡ from_row (cond b (Some x) (find p xs)) (x ∷ xs) in
    elim (p x) as Q [
      | true ↦ λ e. ap (λ ys. x ∷ ys) (kept_whole p xs (all_later p goes x xs e rising.0) ∙ sym (own_behind x xs rising.0))
      | false ↦ λ e. go_on p goes xs rising.1 ∙ first_left_out x xs (find p xs) (all_found (λ y. row_cmp x y ≡ Less) p xs (all_before x xs rising.0))
    ] refl

-- ---- places

goes_past : (place : List ℤ) → GoesOn (λ r. is_gt (place_cmp r.place place))
goes_past place x y past less =
    let before : place_cmp place x.place ≡ Less = less_back place_cmp_total x.place place past in
    let Q : Ordering → Type 0 = λ o. place_cmp x.place y.place ≡ o → is_gt (place_cmp y.place place) ≡ true in
    elim (place_cmp x.place y.place) as Q [
      | Less ↦ λ e. ap is_gt (turned place_cmp_total place y.place (place_cmp_total.trans place x.place y.place before e))
      | Equal ↦ λ e. ap (λ q. is_gt (place_cmp q place)) (sym (place_cmp_exact x.place y.place e)) ∙ past
      | Greater ↦ λ e. let no : Greater ≡ Less = sym (ap (λ o. ordering_then o (nat_cmp x.stamp y.stamp)) e) ∙ less in cc no
    ] refl

-- those past a place are those that come behind it in the order
pub same_past : (place : List ℤ) (rows : List Row) → rows_past place rows ≡ filter (λ r. is_gt (place_cmp r.place place)) rows
same_past place [] = refl
same_past place (r ∷ rs) =
    ap (λ b. cond b (r ∷ rows_past place rs) (rows_past place rs)) (greater_is_less place_cmp_total place r.place)
    ∙ ap (λ ys. cond (is_gt (place_cmp r.place place)) (r ∷ ys) ys) (same_past place rs)

all_from_first : (rows : List Row) → IsRising row_cmp rows → rows ≡ from_row (slice_get rows 0) rows
all_from_first [] rising = refl
all_from_first (x ∷ xs) rising = ap (λ ys. x ∷ ys) (sym (own_behind x xs rising.0))

pub rows_go_on : RowsGoOn
rows_go_on = record {
  first = all_from_first;
  past = λ place rows rising. same_past place rows ∙ go_on (λ r. is_gt (place_cmp r.place place)) (goes_past place) rows rising;
  behind = λ row rows rising. go_on (λ r. is_gt (row_cmp r row)) (goes_behind row) rows rising;
}
