-- The least of a list of messages, from its end on.
use Rattle.std.proofs.Common.{◌≡◌, ◌≢◌, ℤ, Bool, true, false, cond, List, [], ◌∷◌, Option, Some, None, refl, sym, ap, ◌∙◌}
use Rattle.std.proofs.lemmas.Bool.{false≢true}
use Rattle.std.specs.Prelude.{fold, if◌then◌else◌}
use Rattle.std.specs.Ordering.{is_lt, ordering_reverse}
use Rattle.std.specs.declared.cmp.Ordering.{Ordering}
use Rattle.std.specs.declared.cmp.Ordering.TheVariants.{Less, Equal, Greater}
use Rattle.row_tree.specs.Order.{less_by}
use Rattle.place_keys.specs.Place.{place_cmp, stands_before}
use Rattle.place_keys.specs.PlaceLaws.{place_cmp_total}
use Rattle.queue_rows.specs.Dequeueing.{least, nearer}
use Rattle.queue_rows.specs.declared.rows.MsgRow.{MsgRow}

-- ---- places

is_Less : (o : Ordering) → is_lt o ≡ true → o ≡ Less
is_Less Less e = refl
is_Less Equal e = absurd (false≢true e)
is_Less Greater e = absurd (false≢true e)

before_both : (p q r : List ℤ) → stands_before p q ≡ true → stands_before q r ≡ true → stands_before p r ≡ true
before_both p q r e f = ap is_lt (place_cmp_total.trans p q r (is_Less (place_cmp p q) e) (is_Less (place_cmp q r) f))

before_neither : (p q r : List ℤ) → stands_before p q ≡ false → stands_before q r ≡ false → stands_before p r ≡ false
before_neither p q r e f =
    let kept : place_cmp r q ≢ Greater = λ g. false≢true (sym f ∙ ap is_lt (place_cmp_total.antisymm q r ∙ ap ordering_reverse g)) in
    let Q : Ordering → Type 0 = λ o. place_cmp p r ≡ o → is_lt o ≡ false in
    elim (place_cmp p r) as Q [
      | Less ↦ λ less. sym (ap is_lt (less_by place_cmp_total p r q less kept)) ∙ e
      | Equal ↦ λ tied. refl
      | Greater ↦ λ past. refl
    ] refl

-- ---- messages

-- the message, or one that stands before it
abbrev pub nearest_of : MsgRow → Option MsgRow → Option MsgRow
nearest_of m None = Some m
nearest_of m (Some best) = if stands_before best.place m.place then Some best else Some m

pick : (m best : MsgRow) (b : Bool) → stands_before best.place m.place ≡ b → nearest_of m (Some best) ≡ cond b (Some best) (Some m)
pick m best b e = ap (λ t. cond t (Some best) (Some m)) e

first_nearer : (m x : MsgRow) (l : Option MsgRow) → stands_before x.place m.place ≡ true → nearest_of x l ≡ nearest_of m (nearest_of x l)
first_nearer m x None e = sym (pick m x true e)
first_nearer m x (Some b) e =
    let Q : Bool → Type 0 = λ t. stands_before b.place x.place ≡ t → cond t (Some b) (Some x) ≡ nearest_of m (cond t (Some b) (Some x)) in
    elim (stands_before b.place x.place) as Q [
      | true ↦ λ f. sym (pick m b true (before_both b.place x.place m.place f e))
      | false ↦ λ f. sym (pick m x true e)
    ] refl

first_farther : (m x : MsgRow) (l : Option MsgRow) → stands_before x.place m.place ≡ false → nearest_of m l ≡ nearest_of m (nearest_of x l)
first_farther m x None e = sym (pick m x false e)
first_farther m x (Some b) e =
    let Q : Bool → Type 0 = λ t. stands_before b.place x.place ≡ t → nearest_of m (Some b) ≡ nearest_of m (cond t (Some b) (Some x)) in
    elim (stands_before b.place x.place) as Q [
      | true ↦ λ f. refl
      | false ↦ λ f. pick m b false (before_neither b.place x.place m.place f e) ∙ sym (pick m x false e)
    ] refl

from_first : (m : MsgRow) (ms : List MsgRow) → fold nearer (Some m) ms ≡ nearest_of m (fold nearer None ms)
from_first m [] = refl
from_first m (x ∷ xs) =
    let rest = fold nearer None xs in
    let Q : Bool → Type 0 = λ t. stands_before x.place m.place ≡ t → fold nearer (cond t (Some x) (Some m)) xs ≡ nearest_of m (fold nearer (Some x) xs) in
    elim (stands_before x.place m.place) as Q [
      | true ↦ λ e. from_first x xs ∙ first_nearer m x rest e ∙ ap (nearest_of m) (sym (from_first x xs))
      | false ↦ λ e. from_first m xs ∙ first_farther m x rest e ∙ ap (nearest_of m) (sym (from_first x xs))
    ] refl

-- the least of a list is its first message, or the least of the others
pub least_first : (m : MsgRow) (ms : List MsgRow) → least (m ∷ ms) ≡ nearest_of m (least ms)
least_first m ms = from_first m ms
