-- The first row that does not pass, by what stands at a root.
use Rattle.std.proofs.Common.{◌≡◌, Bool, true, false, cond, not, List, [], ◌∷◌, ◌++◌, Option, Some, None, refl, ap, ◌∙◌}
use Rattle.std.specs.List.{find}
use Rattle.std.specs.Option.{option_map_or, option_or}
use Rattle.std.specs.Ordering.{is_lt, is_eq}
use Rattle.std.specs.declared.cmp.Ordering.{Ordering}
use Rattle.std.specs.declared.cmp.Ordering.TheVariants.{Less, Equal, Greater}
use Rattle.row_tree.specs.Bounds.{Falls}
use Rattle.row_tree.specs.Found.{kept_by}
use Rattle.row_tree.specs.Order.{IsRising}
use Rattle.row_tree.specs.Split.{IsSplit}
use Rattle.row_tree.proofs.Rising.{none_found}
use Rattle.row_tree.proofs.Splits.{head_passes}

-- it stands right of a root that passes
pub on_the_right : {T : Type 0} (p : T → Bool) (l : List T) (k : T) (r : List T) → p k ≡ true → IsSplit p (l ++ (k ∷ r))
    → find (λ x. not (p x)) (l ++ (k ∷ r)) ≡ find (λ x. not (p x)) r
on_the_right p [] k r passes split = ap (λ b. cond (not b) (Some k) (find (λ x. not (p x)) r)) passes
on_the_right p (x ∷ l) k r passes split =
    let first : p x ≡ true = head_passes p (p x) l k r split.0 passes in
    ap (λ b. cond (not b) (Some x) (find (λ y. not (p y)) (l ++ (k ∷ r)))) first ∙ on_the_right p l k r passes split.1

-- of a root that does not pass it is the first one on the left, and else the root's own
pub or_the_root : {T : Type 0} (q : T → Bool) (l : List T) (k : T) (r : List T) → q k ≡ true → find q (l ++ (k ∷ r)) ≡ option_or (find q l) (Some k)
or_the_root q [] k r fails = ap (λ b. cond b (Some k) (find q r)) fails
or_the_root q (y ∷ l) k r fails =
    let P : Bool → Type 0 = λ b. cond b (Some y) (find q (l ++ (k ∷ r))) ≡ option_or (cond b (Some y) (find q l)) (Some k) in
    elim (q y) as P [ true ↦ refl | false ↦ or_the_root q l k r fails ]

-- one that was found before is passed over
pub passed_over : {T : Type 0} (found : Option T) (k : T) (earlier : Option T) → option_or (option_or found (Some k)) earlier ≡ option_or found (Some k)
passed_over None k earlier = refl
passed_over (Some x) k earlier = refl

pub asked_of : {T : Type 0} (f : T → Bool) (found : Option T) (k : T) (d : Bool) → option_map_or f (option_or found (Some k)) d ≡ option_map_or f found (f k)
asked_of f None k d = refl
asked_of f (Some x) k d = refl

-- in rows in their order the one at a bound is the first that does not stand before it, if that one stands there
pub at_first : {T : Type 0} {order : T → T → Ordering} (standing : T → Ordering) → Falls order standing → (xs : List T) → IsRising order xs
    → kept_by (λ x. is_eq (standing x)) (find (λ x. not (is_lt (standing x))) xs) ≡ find (λ x. is_eq (standing x)) xs
at_first standing falls [] rising = refl
at_first {T} {order} standing falls (x ∷ xs) rising =
    let at : Option T = find (λ y. is_eq (standing y)) xs in
    let first : Option T = find (λ y. not (is_lt (standing y))) xs in
    let kept : Option T → Option T = kept_by (λ y. is_eq (standing y)) in
    let P : Ordering → Type 0 = λ o. standing x ≡ o → kept (cond (not (is_lt o)) (Some x) first) ≡ cond (is_eq o) (Some x) at in
    elim (standing x) as P [
      | Less ↦ λ e. at_first standing falls xs rising.1
      | Equal ↦ λ e. ap (λ o. cond (is_eq o) (Some x) None) e
      | Greater ↦ λ e.
          let none : at ≡ None = none_found standing falls x xs (ap is_lt e) rising.0 in
          ap (λ o. cond (is_eq o) (Some x) None) e ∙ cc none
    ] refl
