-- A change of one row, in either part of a list.
use Rattle.std.proofs.Common.{◌≡◌, ℕ, ◌+◌, ◌-◌, ◌<◌, suc, zero, List, [], ◌∷◌, ◌++◌, length, slice_get, slice_set, Option, Some, None, IsSome, refl, sym, ap, ◌∙◌, arith}
use Rattle.std.specs.Option.{option_map, option_map_or, option_to_list}
use Rattle.row_tree.specs.Edits.{edit_at}

pub edit_later : {T : Type 0} (x : T) (xs : List T) (i : ℕ) (f : T → T) → edit_at (x ∷ xs) (suc i) f ≡ x ∷ edit_at xs i f
edit_later {T} x xs i f =
    let P : Option T → Type 0 = λ o. option_map_or (λ y. x ∷ slice_set xs i (f y)) o (x ∷ xs) ≡ x ∷ option_map_or (λ y. slice_set xs i (f y)) o xs in
    elim (slice_get xs i) as P [ None ↦ refl | Some y ↦ refl ]

edit_append_left : {T : Type 0} (l r : List T) (at : ℕ) (f : T → T) → at < length l → edit_at (l ++ r) at f ≡ edit_at l at f ++ r
edit_append_left [] r at f below = absurd (omega arith)
edit_append_left (x ∷ xs) r zero f below = refl
edit_append_left (x ∷ xs) r (suc i) f below =
    edit_later x (xs ++ r) i f ∙ ap (λ ys. x ∷ ys) (edit_append_left xs r i f (omega arith)) ∙ ap (λ ys. ys ++ r) (sym (edit_later x xs i f))

edit_append_right : {T : Type 0} (l r : List T) (i : ℕ) (f : T → T) → edit_at (l ++ r) (length l + i) f ≡ l ++ edit_at r i f
edit_append_right [] r i f = let e : 0 + i ≡ i = omega arith in ap (λ n. edit_at r n f) e
edit_append_right (x ∷ xs) r i f =
    let e : length (x ∷ xs) + i ≡ suc (length xs + i) = omega arith in
    ap (λ n. edit_at (x ∷ xs ++ r) n f) e ∙ edit_later x (xs ++ r) (length xs + i) f ∙ ap (λ ys. x ∷ ys) (edit_append_right xs r i f)

pub edit_left : {T : Type 0} (xs l r : List T) (row : Option T) (at : ℕ) (f : T → T) → xs ≡ l ++ (option_to_list row ++ r) → at < length l
    → edit_at l at f ++ (option_to_list row ++ r) ≡ edit_at xs at f
edit_left xs l r row at f is below = rw is (sym (edit_append_left l (option_to_list row ++ r) at f below))

pub edit_right : {T : Type 0} (xs l r : List T) (row : Option T) (at : ℕ) (f : T → T) → IsSome row → xs ≡ l ++ (option_to_list row ++ r) → length l < at
    → l ++ (option_to_list row ++ edit_at r (at - length l - 1) f) ≡ edit_at xs at f
edit_right xs l r None at f some is past = cc some
edit_right xs l r (Some k) at f some is past =
    let i = at - length l - 1 in
    let e : at ≡ length l + suc i = omega arith in
    let there : edit_at (l ++ (k ∷ r)) at f ≡ l ++ (k ∷ edit_at r i f) =
    ap (λ n. edit_at (l ++ (k ∷ r)) n f) e ∙ edit_append_right l (k ∷ r) (suc i) f ∙ ap (λ ys. l ++ ys) (edit_later k r i f) in
    rw is (sym there)

pub edit_root : {T : Type 0} (xs l r : List T) (row : Option T) (at : ℕ) (f : T → T) → IsSome row → xs ≡ l ++ (option_to_list row ++ r) → at ≡ length l
    → l ++ (option_to_list (option_map f row) ++ r) ≡ edit_at xs at f
edit_root xs l r None at f some is here = cc some
edit_root xs l r (Some k) at f some is here =
    let e : at ≡ length l + 0 = omega arith in
    rw is (sym (ap (λ n. edit_at (l ++ (k ∷ r)) n f) e ∙ edit_append_right l (k ∷ r) 0 f))
