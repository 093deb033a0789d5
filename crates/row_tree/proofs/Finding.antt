-- What is found in rows after an edit, for crates that keep rows in their order.
use Rattle.std.proofs.Common.{◌≡◌, Bool, true, false, not, cond, List, [], ◌∷◌, filter, Some, None, refl, sym, ap, ◌∙◌}
use Rattle.std.specs.List.{find}
use Rattle.std.specs.Ordering.{is_lt}
use Rattle.std.specs.declared.cmp.Ordering.{Ordering}
use Rattle.row_tree.specs.Order.{put_in_order}
use Rattle.row_tree.specs.Split.{NonePass}

pub find_put_other : {T : Type 0} (order : T → T → Ordering) (p : T → Bool) (x : T) (xs : List T) → p x ≡ false → find p (put_in_order order x xs) ≡ find p xs
find_put_other order p x [] fails = ap (λ b. cond b (Some x) None) fails
find_put_other {T} order p x (y ∷ ys) fails =
    let P : Bool → Type 0 = λ b. find p (cond b (y ∷ put_in_order order x ys) (x ∷ y ∷ ys)) ≡ find p (y ∷ ys) in
    elim (is_lt (order y x)) as P [
      | true ↦ ap (λ r. cond (p y) (Some y) r) (find_put_other order p x ys fails)
      | false ↦ ap (λ b. cond b (Some x) (find p (y ∷ ys))) fails
    ]

pub find_put_here : {T : Type 0} (order : T → T → Ordering) (p : T → Bool) (x : T) (xs : List T) → p x ≡ true → NonePass p xs → find p (put_in_order order x xs) ≡ Some x
find_put_here order p x [] passes none = ap (λ b. cond b (Some x) None) passes
find_put_here {T} order p x (y ∷ ys) passes none =
    let P : Bool → Type 0 = λ b. find p (cond b (y ∷ put_in_order order x ys) (x ∷ y ∷ ys)) ≡ Some x in
    elim (is_lt (order y x)) as P [
      | true ↦ ap (λ b. cond b (Some y) (find p (put_in_order order x ys))) none.0 ∙ find_put_here order p x ys passes none.1
      | false ↦ ap (λ b. cond b (Some x) (find p (y ∷ ys))) passes
    ]

pub find_filter_other : {T : Type 0} (k p : T → Bool) → ((y : T) → k y ≡ false → p y ≡ false) → (xs : List T) → find p (filter k xs) ≡ find p xs
find_filter_other k p other [] = refl
find_filter_other {T} k p other (x ∷ xs) =
    let P : Bool → Type 0 = λ b. k x ≡ b → find p (cond b (x ∷ filter k xs) (filter k xs)) ≡ find p (x ∷ xs) in
    elim (k x) as P [
      | true ↦ λ e. ap (λ r. cond (p x) (Some x) r) (find_filter_other k p other xs)
      | false ↦ λ e. find_filter_other k p other xs ∙ sym (ap (λ b. cond b (Some x) (find p xs)) (other x e))
    ] refl

fails_not : (b : Bool) → not b ≡ true → b ≡ false
fails_not true e = cc e
fails_not false e = refl

pub none_kept : {T : Type 0} (k p : T → Bool) → ((y : T) → p y ≡ k y) → (xs : List T) → NonePass p (filter (λ y. not (k y)) xs)
none_kept k p same [] = tt
none_kept {T} k p same (x ∷ xs) =
    let P : Bool → Type 0 = λ b. not (k x) ≡ b → NonePass p (cond b (x ∷ filter (λ y. not (k y)) xs) (filter (λ y. not (k y)) xs)) in
    elim (not (k x)) as P [ true ↦ λ e. (same x ∙ fails_not (k x) e, none_kept k p same xs) | false ↦ λ e. none_kept k p same xs ] refl

pub none_found : {T : Type 0} (p : T → Bool) (xs : List T) → find p xs ≡ None → NonePass p xs
none_found p [] none = tt
none_found {T} p (x ∷ xs) none =
    let P : Bool → Type 0 = λ b. p x ≡ b → cond b (Some x) (find p xs) ≡ None → NonePass p (x ∷ xs) in
    elim (p x) as P [ true ↦ λ e found. cc found | false ↦ λ e found. (e, none_found p xs found) ] refl none

pub find_none : {T : Type 0} (p : T → Bool) (xs : List T) → NonePass p xs → find p xs ≡ None
find_none p [] none = refl
find_none p (x ∷ xs) none = ap (λ b. cond b (Some x) (find p xs)) none.0 ∙ find_none p xs none.1

pub find_alike : {T : Type 0} (p r : T → Bool) → ((y : T) → p y ≡ r y) → (xs : List T) → find p xs ≡ find r xs
find_alike p r same [] = refl
find_alike p r same (x ∷ xs) = ap (λ b. cond b (Some x) (find p xs)) (same x) ∙ ap (λ found. cond (r x) (Some x) found) (find_alike p r same xs)
