-- An edit on a side of a root, and at the root.
use Rattle.std.proofs.Common.{◌≡◌, ℕ, ◌+◌, ◌-◌, ◌<◌, ◌≤◌, suc, zero, List, [], ◌∷◌, ◌++◌, length, insert, remove, slice_get, Option, Some, None, IsSome, refl, sym, ap, ◌∙◌, arith}
use Rattle.std.specs.Option.{option_to_list}
use Rattle.std.proofs.lemmas.List.{length-append, get_or_at}
use Rattle.std.proofs.lemmas.List.Edits.{insert-append_left, insert-append_right, remove-append_left, remove-append_right}
use Rattle.std.proofs.lemmas.Option.{slice_get-get_or}

pub insert_left : {T : Type 0} (xs l r : List T) (row : Option T) (at : ℕ) (x : T) → xs ≡ l ++ (option_to_list row ++ r) → at ≤ length l
    → insert l at x ++ (option_to_list row ++ r) ≡ insert xs at x
insert_left xs l r row at x is within = sym (insert-append_left l (option_to_list row ++ r) at x within) ∙ ap (λ ys. insert ys at x) (sym is)

pub insert_right : {T : Type 0} (xs l r : List T) (row : Option T) (at : ℕ) (x : T) → IsSome row → xs ≡ l ++ (option_to_list row ++ r) → length l < at
    → l ++ (option_to_list row ++ insert r (at - length l - 1) x) ≡ insert xs at x
insert_right xs l r None at x some is after = cc some
insert_right xs l r (Some k) at x some is after =
    let inner = insert-append_right (k ∷ []) r 1 (at - length l) x refl (omega arith) in
    let outer = insert-append_right l (k ∷ r) (length l) at x refl (omega arith) in
    rw is (ap (λ ys. l ++ ys) (sym inner) ∙ sym outer)

pub remove_left : {T : Type 0} (xs l r : List T) (row : Option T) (at : ℕ) → xs ≡ l ++ (option_to_list row ++ r) → at < length l
    → remove l at ++ (option_to_list row ++ r) ≡ remove xs at
remove_left xs l r row at is below = sym (remove-append_left l (option_to_list row ++ r) at below) ∙ ap (λ ys. remove ys at) (sym is)

pub remove_right : {T : Type 0} (xs l r : List T) (row : Option T) (at : ℕ) → IsSome row → xs ≡ l ++ (option_to_list row ++ r) → length l < at
    → l ++ (option_to_list row ++ remove r (at - length l - 1)) ≡ remove xs at
remove_right xs l r None at some is after = cc some
remove_right xs l r (Some k) at some is after =
    let inner = remove-append_right (k ∷ []) r 1 (at - length l) refl (omega arith) in
    let outer = remove-append_right l (k ∷ r) (length l) at refl (omega arith) in
    rw is (ap (λ ys. l ++ ys) (sym inner) ∙ sym outer)

pub remove_root : {T : Type 0} (xs l r : List T) (row : Option T) (at : ℕ) → IsSome row → xs ≡ l ++ (option_to_list row ++ r) → at ≡ length l
    → l ++ r ≡ remove xs at
remove_root xs l r None at some is here = cc some
remove_root xs l r (Some k) at some is here =
    let outer = remove-append_right l (k ∷ r) (length l) at refl (omega arith) in
    let none : at - length l ≡ 0 = omega arith in
    rw is (sym (outer ∙ ap (λ n. l ++ remove (k ∷ r) n) none))

pub get_root : {T : Type 0} (xs l r : List T) (row : Option T) (at : ℕ) → IsSome row → xs ≡ l ++ (option_to_list row ++ r) → at ≡ length l
    → slice_get xs at ≡ row
get_root xs l r None at some is here = cc some
get_root xs l r (Some k) at some is here =
    let long = length-append l (k ∷ r) in
    let within : at < length (l ++ (k ∷ r)) = omega arith in
    rw is (slice_get-get_or (l ++ (k ∷ r)) at k within ∙ ap Some (get_or_at l k r k at (sym here)))

get_append_left : {T : Type 0} (l r : List T) (at : ℕ) (x : T) → slice_get l at ≡ Some x → slice_get (l ++ r) at ≡ Some x
get_append_left [] r at x there = cc there
get_append_left (y ∷ ys) r zero x there = there
get_append_left (y ∷ ys) r (suc i) x there = get_append_left ys r i x there

pub get_append_right : {T : Type 0} (l r : List T) (i : ℕ) → slice_get (l ++ r) (length l + i) ≡ slice_get r i
get_append_right [] r i = let e : 0 + i ≡ i = omega arith in ap (slice_get r) e
get_append_right (y ∷ ys) r i =
    let e : length (y ∷ ys) + i ≡ suc (length ys + i) = omega arith in
    ap (slice_get (y ∷ ys ++ r)) e ∙ get_append_right ys r i

pub get_left : {T : Type 0} (xs l r : List T) (row : Option T) (at : ℕ) (got : Option T) → IsSome got → xs ≡ l ++ (option_to_list row ++ r)
    → slice_get l at ≡ got → slice_get xs at ≡ got
get_left xs l r row at None some is there = cc some
get_left xs l r row at (Some x) some is there = rw is (get_append_left l (option_to_list row ++ r) at x there)

pub get_right : {T : Type 0} (xs l r : List T) (row : Option T) (at : ℕ) (got : Option T) → IsSome row → xs ≡ l ++ (option_to_list row ++ r) → length l < at
    → slice_get r (at - length l - 1) ≡ got → slice_get xs at ≡ got
get_right xs l r None at got some is past there = cc some
get_right xs l r (Some k) at got some is past there =
    let i = at - length l - 1 in
    let e : at ≡ length l + suc i = omega arith in
    rw is (ap (slice_get (l ++ (k ∷ r))) e ∙ get_append_right l (k ∷ r) (suc i) ∙ there)
