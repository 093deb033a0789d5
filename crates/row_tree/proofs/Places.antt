-- What stands where a search stops.
use Rattle.std.proofs.Common.{◌≡◌, ℕ, ◌+◌, ◌<◌, ◌≤◌, suc, Bool, true, false, cond, not, List, [], ◌∷◌, length, zero, insert, remove, slice_get, Some, None, refl, ap, ◌∙◌, arith}
use Rattle.std.specs.List.{prefix_len, find}
use Rattle.std.specs.Option.{option_map_or}
use Rattle.std.specs.Ordering.{is_lt}
use Rattle.std.specs.declared.cmp.Ordering.{Ordering}
use Rattle.row_tree.specs.Order.{put_in_order, without_first}

one_more : (n : ℕ) → 1 + n ≡ suc n
one_more n = omega arith

-- it is the first row that does not pass
pub found : {T : Type 0} (p : T → Bool) (xs : List T) → slice_get xs (prefix_len p xs) ≡ find (λ x. not (p x)) xs
found p [] = refl
found p (x ∷ xs) =
    let P : Bool → Type 0 = λ b. slice_get (x ∷ xs) (cond b (1 + prefix_len p xs) 0) ≡ cond (not b) (Some x) (find (λ y. not (p y)) xs) in
    elim (p x) as P [ true ↦ ap (slice_get (x ∷ xs)) (one_more (prefix_len p xs)) ∙ found p xs | false ↦ refl ]

pub put_there : {T : Type 0} (order : T → T → Ordering) (x : T) (xs : List T) → insert xs (prefix_len (λ y. is_lt (order y x)) xs) x ≡ put_in_order order x xs
put_there order x [] = refl
put_there order x (y ∷ ys) =
    let n = prefix_len (λ y. is_lt (order y x)) ys in
    let P : Bool → Type 0 = λ b. insert (y ∷ ys) (cond b (1 + n) 0) x ≡ cond b (y ∷ put_in_order order x ys) (x ∷ y ∷ ys) in
    elim (is_lt (order y x)) as P [
      | true ↦ ap (λ i. insert (y ∷ ys) i x) (one_more n) ∙ ap (λ zs. y ∷ zs) (put_there order x ys)
      | false ↦ refl
    ]

pub taken_there : {T : Type 0} (p : T → Bool) (xs : List T) → prefix_len p xs < length xs → remove xs (prefix_len p xs) ≡ without_first (λ x. not (p x)) xs
taken_there p [] within = absurd (omega arith)
taken_there p (x ∷ xs) within =
    let n = prefix_len p xs in
    let P : Bool → Type 0 = λ b. cond b (1 + n) 0 < suc (length xs) → remove (x ∷ xs) (cond b (1 + n) 0) ≡ cond (not b) xs (x ∷ without_first (λ y. not (p y)) xs) in
    elim (p x) as P [
      | true ↦ λ below. ap (remove (x ∷ xs)) (one_more n) ∙ ap (λ zs. x ∷ zs) (taken_there p xs (omega arith))
      | false ↦ λ below. refl
    ] within

pub none_there : {T : Type 0} (p : T → Bool) (xs : List T) → length xs ≤ prefix_len p xs → find (λ x. not (p x)) xs ≡ None
none_there p [] past = refl
none_there p (x ∷ xs) past =
    let n = prefix_len p xs in
    let P : Bool → Type 0 = λ b. suc (length xs) ≤ cond b (1 + n) 0 → cond (not b) (Some x) (find (λ y. not (p y)) xs) ≡ None in
    elim (p x) as P [ true ↦ λ above. none_there p xs (omega arith) | false ↦ λ above. absurd (omega arith) ] past

pub all_stay : {T : Type 0} (p : T → Bool) (xs : List T) → length xs ≤ prefix_len p xs → without_first (λ x. not (p x)) xs ≡ xs
all_stay p [] past = refl
all_stay p (x ∷ xs) past =
    let n = prefix_len p xs in
    let P : Bool → Type 0 = λ b. suc (length xs) ≤ cond b (1 + n) 0 → cond (not b) xs (x ∷ without_first (λ y. not (p y)) xs) ≡ (x ∷ xs) in
    elim (p x) as P [ true ↦ λ above. ap (λ zs. x ∷ zs) (all_stay p xs (omega arith)) | false ↦ λ above. absurd (omega arith) ] past

pub within_there : {T : Type 0} (p : T → Bool) (xs : List T) (at : ℕ) → option_map_or p (slice_get xs at) false ≡ true → at < length xs
within_there p [] at there = cc there
within_there p (x ∷ xs) zero there = omega arith
within_there p (x ∷ xs) (suc i) there = let more = within_there p xs i there in omega arith
