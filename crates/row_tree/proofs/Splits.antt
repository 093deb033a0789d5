-- A search at a root goes on to one side.
use Rattle.std.proofs.Common.{◌≡◌, ◌+◌, Bool, true, false, cond, List, [], ◌∷◌, ◌++◌, length, refl, ap, ◌∙◌, arith}
use Rattle.std.specs.List.{prefix_len}
use Rattle.row_tree.specs.Split.{NonePass, IsSplit}

none_at : {T : Type 0} (p : T → Bool) (l : List T) (k : T) (r : List T) → NonePass p (l ++ (k ∷ r)) → p k ≡ false
none_at p [] k r none = none.0
none_at p (x ∷ l) k r none = none_at p l k r none.1

none_left : {T : Type 0} (p : T → Bool) (l r : List T) → NonePass p (l ++ r) → NonePass p l
none_left p [] r none = tt
none_left p (x ∷ l) r none = (none.0, none_left p l r none.1)

pub split_left : {T : Type 0} (p : T → Bool) (l r : List T) → IsSplit p (l ++ r) → IsSplit p l
split_left p [] r split = tt
split_left p (x ∷ l) r split = (λ fails. none_left p l r (split.0 fails), split_left p l r split.1)

pub split_right : {T : Type 0} (p : T → Bool) (l : List T) (k : T) (r : List T) → IsSplit p (l ++ (k ∷ r)) → IsSplit p r
split_right p [] k r split = split.1
split_right p (x ∷ l) k r split = split_right p l k r split.1

pub head_passes : {T : Type 0} (p : T → Bool) (b : Bool) (l : List T) (k : T) (r : List T) → (b ≡ false → NonePass p (l ++ (k ∷ r))) → p k ≡ true → b ≡ true
head_passes p true l k r later passes = refl
head_passes p false l k r later passes = let fails = none_at p l k r (later refl) in cc

pub prefix_left : {T : Type 0} (p : T → Bool) (l : List T) (k : T) (r : List T) → p k ≡ false → prefix_len p (l ++ (k ∷ r)) ≡ prefix_len p l
prefix_left p [] k r fails = ap (λ b. cond b (1 + prefix_len p r) 0) fails
prefix_left p (x ∷ l) k r fails = ap (λ n. cond (p x) (1 + n) 0) (prefix_left p l k r fails)

pub prefix_right : {T : Type 0} (p : T → Bool) (l : List T) (k : T) (r : List T) → p k ≡ true → IsSplit p (l ++ (k ∷ r))
    → prefix_len p (l ++ (k ∷ r)) ≡ length l + 1 + prefix_len p r
prefix_right p [] k r passes split = ap (λ b. cond b (1 + prefix_len p r) 0) passes ∙ omega arith
prefix_right p (x ∷ l) k r passes split =
    let first : p x ≡ true = head_passes p (p x) l k r split.0 passes in
    let rest = prefix_right p l k r passes split.1 in
    ap (λ b. cond b (1 + prefix_len p (l ++ (k ∷ r))) 0) first ∙ omega arith
