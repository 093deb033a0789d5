-- The first row at a place.
use Rattle.std.proofs.Common.{◌≡◌, ◌≢◌, ℕ, ℤ, Bool, true, false, not, cond, List, [], ◌∷◌, Option, Some, None, nat_lt, refl, sym, ap, ◌∙◌, subst, arith}
use Rattle.std.proofs.lemmas.Bool.Decides.{nat_tests}
use Rattle.std.specs.Prelude.{◌==◌}
use Rattle.std.specs.List.{find}
use Rattle.std.specs.Option.{option_map}
use Rattle.std.specs.Ordering.{is_eq, is_lt, nat_cmp, ordering_reverse, ordering_then}
use Rattle.std.specs.Cmp.{nat_cmp_total}
use Rattle.std.specs.declared.cmp.Ordering.{Ordering}
use Rattle.std.specs.declared.cmp.Ordering.TheVariants.{Less, Equal, Greater}
use Rattle.std.proofs.lemmas.Cmp.{alike_right, tied_itself}
use Rattle.row_tree.specs.Found.{kept_by}
use Rattle.row_tree.specs.Order.{IsBeforeAll, past_row, without_first}
use Rattle.place_keys.specs.Place.{place_cmp}
use Rattle.sort_index.specs.Ready.{AreRising, ready_cmp, row_at, row_cmp, is_at, is_row, without_first_at, without_row}
use Rattle.sort_index.specs.ReadyLaws.{before_past_place, ready_cmp_total}
use Rattle.sort_index.specs.declared.group.Ready.{Ready}

none_below : (n : ℕ) → is_lt (nat_cmp n 0) ≡ false
none_below n =
    let P : Bool → Type 0 = λ b. nat_lt n 0 ≡ b → is_lt (cond b Less (cond (n == 0) Equal Greater)) ≡ false in
    let Q : Bool → Type 0 = λ b. is_lt (cond b Equal Greater) ≡ false in
    elim (nat_lt n 0) as P [ true ↦ λ e. absurd (grind (arith, nat_tests)) | false ↦ λ e. elim (n == 0) as Q [ true ↦ refl | false ↦ refl ] ] refl

pushed : (o p : Ordering) → (past_row p ≢ Greater → past_row o ≡ Less) → o ≡ Greater → p ≡ Greater
pushed o Less falls past = let less = falls (λ e. cc e) in let more = ap past_row past in cc (less, more)
pushed o Equal falls past = let less = falls (λ e. cc e) in let more = ap past_row past in cc (less, more)
pushed o Greater falls past = refl

-- behind a row that stands past a place none stands at it
none_later : (place : List ℤ) (x : Ready) (xs : List Ready) → place_cmp x.place place ≡ Greater → IsBeforeAll ready_cmp x xs → find (is_at place) xs ≡ None
none_later place x [] past before = refl
none_later place x (y ∷ ys) past before =
    let later = pushed (place_cmp x.place place) (place_cmp y.place place) (before_past_place x y place before.0) past in
    ap (λ o. cond (is_eq o) (Some y) (find (is_at place) ys)) later ∙ none_later place x ys past before.1

-- the first row that does not stand before a place is the first at it, or there is none
pub first_at : (place : List ℤ) (rows : List Ready) → AreRising rows
    → kept_by (is_at place) (find (λ row. not (is_lt (row_cmp row place 0))) rows) ≡ find (is_at place) rows
first_at place [] rising = refl
first_at place (x ∷ xs) rising =
    let from = find (λ row. not (is_lt (row_cmp row place 0))) xs in
    let at = find (is_at place) xs in
    let P : Ordering → Type 0 = λ o. place_cmp x.place place ≡ o
    → kept_by (is_at place) (cond (not (is_lt (ordering_then o (nat_cmp x.id 0)))) (Some x) from) ≡ cond (is_eq o) (Some x) at in
    elim (place_cmp x.place place) as P [
      | Less ↦ λ e. first_at place xs rising.1
      | Equal ↦ λ e.
          ap (λ b. kept_by (is_at place) (cond (not b) (Some x) from)) (none_below x.id) ∙ ap (λ o. cond (is_eq o) (Some x) None) e
      | Greater ↦ λ e. ap (λ o. cond (is_eq o) (Some x) None) e ∙ sym (none_later place x xs e rising.0)
    ] refl

-- a later row has another place or another id
other_row : (place : List ℤ) (x y : Ready) → place_cmp x.place place ≡ Equal → ready_cmp x y ≡ Less → is_row place x.id y ≡ false
other_row place x y at before =
    let tie : ready_cmp x (row_at place x.id) ≡ Equal = ap (λ o. ordering_then o (nat_cmp x.id x.id)) at ∙ tied_itself nat_cmp_total x.id in
    ap is_eq (sym (alike_right ready_cmp_total x (row_at place x.id) y tie) ∙ ready_cmp_total.antisymm y x ∙ ap ordering_reverse before)

later_kept : (place : List ℤ) (x : Ready) (xs : List Ready) → place_cmp x.place place ≡ Equal → IsBeforeAll ready_cmp x xs → without_row place x.id xs ≡ xs
later_kept place x [] at before = refl
later_kept place x (y ∷ ys) at before =
    let others = without_row place x.id ys in
    ap (λ b. cond (not b) (y ∷ others) others) (other_row place x y at before.0) ∙ ap (λ rows. y ∷ rows) (later_kept place x ys at before.1)

-- without the row that has the place and the id of the first one at the place
without_found : (place : List ℤ) (rows : List Ready) (x : Ready) → AreRising rows → find (is_at place) rows ≡ Some x
    → without_row place x.id rows ≡ without_first_at place rows
without_found place [] x rising found = cc found
without_found place (y ∷ ys) x rising found =
    let others = without_row place x.id ys in
    let P : Ordering → Type 0 = λ o. place_cmp y.place place ≡ o → cond (is_eq o) (Some y) (find (is_at place) ys) ≡ Some x
    → cond (not (is_eq (ordering_then o (nat_cmp y.id x.id)))) (y ∷ others) others ≡ cond (is_eq o) ys (y ∷ without_first (is_at place) ys) in
    let Q : Ready → Type 0 = λ z. cond (not (is_eq (nat_cmp y.id z.id))) (y ∷ without_row place z.id ys) (without_row place z.id ys) ≡ ys in
    elim (place_cmp y.place place) as P [
      | Less ↦ λ e f. ap (λ rows. y ∷ rows) (without_found place ys x rising.1 f)
      | Equal ↦ λ e f.
          let same : y ≡ x = cc f in
          let own : Q y = ap (λ o. cond (not (is_eq o)) (y ∷ without_row place y.id ys) (without_row place y.id ys)) (tied_itself nat_cmp_total y.id)
          ∙ later_kept place y ys e rising.0 in
          subst Q same own
      | Greater ↦ λ e f. ap (λ rows. y ∷ rows) (without_found place ys x rising.1 f)
    ] refl found

pub without_first_id : (place : List ℤ) (rows : List Ready) (id : ℕ) → AreRising rows → option_map (λ row. row.id) (find (is_at place) rows) ≡ Some id
    → without_row place id rows ≡ without_first_at place rows
without_first_id place rows id rising told =
    let P : Option Ready → Type 0 = λ o. find (is_at place) rows ≡ o → option_map (λ row. row.id) o ≡ Some id → without_row place id rows ≡ without_first_at place rows in
    elim (find (is_at place) rows) as P [
      | None ↦ λ e t. cc t
      | Some x ↦ λ e t. let same : x.id ≡ id = cc t in ap (λ n. without_row place n rows) (sym same) ∙ without_found place rows x rising e
    ] refl told

none_first : (place : List ℤ) (rows : List Ready) → find (is_at place) rows ≡ None → without_first_at place rows ≡ rows
none_first place [] none = refl
none_first place (x ∷ xs) none =
    let P : Bool → Type 0 = λ b. cond b (Some x) (find (is_at place) xs) ≡ None → cond b xs (x ∷ without_first (is_at place) xs) ≡ (x ∷ xs) in
    elim (is_at place x) as P [ true ↦ λ f. cc f | false ↦ λ f. ap (λ rows. x ∷ rows) (none_first place xs f) ] none

pub without_first_none : (place : List ℤ) (rows : List Ready) → option_map (λ row. row.id) (find (is_at place) rows) ≡ None → without_first_at place rows ≡ rows
without_first_none place rows told =
    let P : Option Ready → Type 0 = λ o. find (is_at place) rows ≡ o → option_map (λ row. row.id) o ≡ None → without_first_at place rows ≡ rows in
    elim (find (is_at place) rows) as P [ None ↦ λ e t. none_first place rows e | Some x ↦ λ e t. cc t ] refl told
