-- One call more among those that are kept.
use Rattle.std.proofs.Common.{◌≡◌, ℕ, suc, ◌+◌, ◌-◌, ◌<◌, ◌≤◌, Bool, true, false, cond, not, List, [], ◌∷◌, ◌++◌, length, take, drop, get_or, sym, ◌∙◌, ap, arith, length-take, length-drop}
use Rattle.std.specs.Prelude.{nat_lt}
use Rattle.std.specs.List.{prefix_len, suffix_len, position_or_len}
use Rattle.std.proofs.lemmas.List.{reverse-append, take_all, drop_all, take-append-le, drop-append-le, length_push, take_more, drop_more}
use Rattle.std.proofs.lemmas.Grind.{common_steps}
use Rattle.aq_disk.specs.Kept.{is_sync, up_to, since_sync, until_sync}
use Rattle.aq_disk.specs.declared.kept.Kept.{Kept}

suffix_push : (xs : List Kept) (k : Kept) → suffix_len (λ x. not (is_sync x)) (xs ++ k ∷ []) ≡ cond (not (is_sync k)) (1 + suffix_len (λ x. not (is_sync x)) xs) 0
suffix_push xs k = ap (prefix_len (λ x. not (is_sync x))) (reverse-append xs (k ∷ []))

pub since_push_sync : (xs : List Kept) (k : Kept) → is_sync k ≡ true → since_sync (xs ++ k ∷ []) ≡ []
since_push_sync xs k h =
    let none : suffix_len (λ x. not (is_sync x)) (xs ++ k ∷ []) ≡ 0 = suffix_push xs k ∙ ap (λ (b : Bool). cond (not b) (1 + suffix_len (λ x. not (is_sync x)) xs) 0) h in
    drop_all (length (xs ++ k ∷ []) - suffix_len (λ x. not (is_sync x)) (xs ++ k ∷ [])) (xs ++ k ∷ []) (omega (arith, none))

pub since_push : (xs : List Kept) (k : Kept) → is_sync k ≡ false → since_sync (xs ++ k ∷ []) ≡ since_sync xs ++ k ∷ []
since_push xs k h =
    let more : suffix_len (λ x. not (is_sync x)) (xs ++ k ∷ []) ≡ 1 + suffix_len (λ x. not (is_sync x)) xs = suffix_push xs k ∙ ap (λ (b : Bool). cond (not b) (1 + suffix_len (λ x. not (is_sync x)) xs) 0) h in
    let from : length (xs ++ k ∷ []) - suffix_len (λ x. not (is_sync x)) (xs ++ k ∷ []) ≡ length xs - suffix_len (λ x. not (is_sync x)) xs = omega (arith, more, length_push xs k) in
    ap (λ (n : ℕ). drop n (xs ++ k ∷ [])) from ∙ drop-append-le (length xs - suffix_len (λ x. not (is_sync x)) xs) xs (k ∷ []) (omega arith)

pub until_push_sync : (xs : List Kept) (k : Kept) → is_sync k ≡ true → until_sync (xs ++ k ∷ []) ≡ xs ++ k ∷ []
until_push_sync xs k h =
    take_all (length (xs ++ k ∷ []) - length (since_sync (xs ++ k ∷ []))) (xs ++ k ∷ []) (omega (arith, ap length (since_push_sync xs k h)))

pub until_push : (xs : List Kept) (k : Kept) → is_sync k ≡ false → until_sync (xs ++ k ∷ []) ≡ until_sync xs
until_push xs k h =
    let many : length (since_sync (xs ++ k ∷ [])) ≡ length (since_sync xs) + 1 = ap length (since_push xs k h) ∙ length_push (since_sync xs) k in
    let from : length (xs ++ k ∷ []) - length (since_sync (xs ++ k ∷ [])) ≡ length xs - length (since_sync xs) = omega (arith, many, length_push xs k) in
    ap (λ (n : ℕ). take n (xs ++ k ∷ [])) from ∙ take-append-le (length xs - length (since_sync xs)) xs (k ∷ []) (omega arith)

-- a loop's step towards the place after the last sync
pub since_more : (kept : List Kept) (i from : ℕ) (k : Kept) → i < length kept → from ≤ i → k ≡ get_or kept i k → is_sync k ≡ false → since_sync (take i kept) ≡ drop from (take i kept)
    → since_sync (take (i + 1) kept) ≡ drop from (take (i + 1) kept)
since_more kept i from k lt le is h so_far =
    let next : take (i + 1) kept ≡ take i kept ++ k ∷ [] = take_more kept i k lt ∙ ap (λ (x : Kept). take i kept ++ x ∷ []) (sym is) in
    let long : from ≤ length (take i kept) = simp length-take (omega arith) in
    ap since_sync next ∙ since_push (take i kept) k h ∙ ap (λ (l : List Kept). l ++ k ∷ []) so_far ∙ sym (drop-append-le from (take i kept) (k ∷ []) long) ∙ ap (drop from) (sym next)

pub since_more_sync : (kept : List Kept) (i : ℕ) (k : Kept) → i < length kept → k ≡ get_or kept i k → is_sync k ≡ true
    → since_sync (take (i + 1) kept) ≡ drop (i + 1) (take (i + 1) kept)
since_more_sync kept i k lt is h =
    let next : take (i + 1) kept ≡ take i kept ++ k ∷ [] = take_more kept i k lt ∙ ap (λ (x : Kept). take i kept ++ x ∷ []) (sym is) in
    ap since_sync next ∙ since_push_sync (take i kept) k h ∙ sym (drop_all (i + 1) (take (i + 1) kept) (simp length-take (omega arith)))

-- where the last sync stands, the calls are split
pub until_at : (kept : List Kept) (from : ℕ) → from ≤ length kept → since_sync kept ≡ drop from kept → take from kept ≡ until_sync kept
until_at kept from le is =
    let many : length (since_sync kept) ≡ length kept - from = ap length is ∙ length-drop from kept in
    ap (λ (n : ℕ). take n kept) (omega (arith, many))

one_more_at_most : (b : Bool) (n m : ℕ) → n ≤ m → cond b (1 + n) 0 ≤ suc m
one_more_at_most true n m le = omega arith
one_more_at_most false n m le = omega arith

lt_true : (a b : ℕ) → a < b → nat_lt a b ≡ true
lt_true a b lt = grind (arith, common_steps)

le_false : (a b : ℕ) → b ≤ a → nat_lt a b ≡ false
le_false a b le = grind (arith, common_steps)

module _ (call : ℕ) where
  place : (ys : List Kept) (k : Kept) → call < k.call → position_or_len (λ x. nat_lt call x.call) (ys ++ k ∷ []) ≡ position_or_len (λ x. nat_lt call x.call) ys
  place [] k lt = ap (λ (b : Bool). cond (not b) 1 0) (lt_true call k.call lt)
  place (y ∷ ys) k lt = ap (λ (n : ℕ). cond (not (nat_lt call y.call)) (1 + n) 0) (place ys k lt)

  short : (ys : List Kept) → position_or_len (λ x. nat_lt call x.call) ys ≤ length ys
  short [] = omega arith
  short (y ∷ ys) = one_more_at_most (not (nat_lt call y.call)) (position_or_len (λ x. nat_lt call x.call) ys) (length ys) (short ys)

  -- one call more under a higher number
  pub up_to_push : (xs : List Kept) (k : Kept) → call < k.call → up_to call (xs ++ k ∷ []) ≡ up_to call xs
  up_to_push xs k lt =
      ap (λ (n : ℕ). take n (xs ++ k ∷ [])) (place xs k lt) ∙ take-append-le (position_or_len (λ x. nat_lt call x.call) xs) xs (k ∷ []) (short xs)

  -- a loop's step towards the first call past the number
  pub up_to_more : (kept : List Kept) (i : ℕ) (k : Kept) → i < length kept → k ≡ get_or kept i k → k.call ≤ call
      → position_or_len (λ x. nat_lt call x.call) kept ≡ i + position_or_len (λ x. nat_lt call x.call) (drop i kept)
      → position_or_len (λ x. nat_lt call x.call) kept ≡ i + 1 + position_or_len (λ x. nat_lt call x.call) (drop (i + 1) kept)
  up_to_more kept i k lt is le so_far =
      let next : drop i kept ≡ k ∷ drop (i + 1) kept = drop_more kept i k lt ∙ ap (λ (x : Kept). x ∷ drop (i + 1) kept) (sym is) in
      let here : position_or_len (λ x. nat_lt call x.call) (drop i kept) ≡ 1 + position_or_len (λ x. nat_lt call x.call) (drop (i + 1) kept) =
      ap (position_or_len (λ x. nat_lt call x.call)) next ∙ ap (λ (b : Bool). cond (not b) (1 + position_or_len (λ x. nat_lt call x.call) (drop (i + 1) kept)) 0) (le_false call k.call le) in
      omega (arith, so_far, here)

  pub up_to_here : (kept : List Kept) (i : ℕ) (k : Kept) → i < length kept → k ≡ get_or kept i k → call < k.call
      → position_or_len (λ x. nat_lt call x.call) kept ≡ i + position_or_len (λ x. nat_lt call x.call) (drop i kept) → take i kept ≡ up_to call kept
  up_to_here kept i k lt is past so_far =
      let next : drop i kept ≡ k ∷ drop (i + 1) kept = drop_more kept i k lt ∙ ap (λ (x : Kept). x ∷ drop (i + 1) kept) (sym is) in
      let here : position_or_len (λ x. nat_lt call x.call) (drop i kept) ≡ 0 =
      ap (position_or_len (λ x. nat_lt call x.call)) next ∙ ap (λ (b : Bool). cond (not b) (1 + position_or_len (λ x. nat_lt call x.call) (drop (i + 1) kept)) 0) (lt_true call k.call past) in
      ap (λ (n : ℕ). take n kept) (omega (arith, so_far, here))

  pub up_to_end : (kept : List Kept) (i : ℕ) → length kept ≤ i → i ≤ length kept
      → position_or_len (λ x. nat_lt call x.call) kept ≡ i + position_or_len (λ x. nat_lt call x.call) (drop i kept) → kept ≡ up_to call kept
  up_to_end kept i ge le so_far =
      let none : position_or_len (λ x. nat_lt call x.call) (drop i kept) ≡ 0 = ap (position_or_len (λ x. nat_lt call x.call)) (drop_all i kept ge) in
      sym (take_all (position_or_len (λ x. nat_lt call x.call) kept) kept (omega (arith, so_far, none)))
