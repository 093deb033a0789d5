-- What stands behind the rows that pass, where these stand first.
use Rattle.std.proofs.Common.{◌≡◌, ℕ, ◌+◌, suc, Bool, true, false, cond, not, List, [], ◌∷◌, drop, filter, refl, sym, ap, ◌∙◌, arith}
use Rattle.std.specs.List.{prefix_len}
use Rattle.row_tree.specs.Split.{NonePass, IsSplit}

one_more : (n : ℕ) → 1 + n ≡ suc n
one_more n = omega arith

none_pass : {T : Type 0} (p : T → Bool) (xs : List T) → NonePass p xs → xs ≡ filter (λ x. not (p x)) xs
none_pass p [] none = refl
none_pass p (x ∷ xs) none =
    let left = filter (λ y. not (p y)) xs in
    ap (λ ys. x ∷ ys) (none_pass p xs none.1) ∙ sym (ap (λ b. cond (not b) (x ∷ left) left) none.0)

-- behind those that pass stand all that do not
pub behind_split : {T : Type 0} (p : T → Bool) (xs : List T) → IsSplit p xs → drop (prefix_len p xs) xs ≡ filter (λ x. not (p x)) xs
behind_split p [] split = refl
behind_split p (x ∷ xs) split =
    let left = filter (λ y. not (p y)) xs in
    let P : Bool → Type 0 = λ b. p x ≡ b → drop (cond b (1 + prefix_len p xs) 0) (x ∷ xs) ≡ cond (not b) (x ∷ left) left in
    elim (p x) as P [
      | true ↦ λ e. ap (λ n. drop n (x ∷ xs)) (one_more (prefix_len p xs)) ∙ behind_split p xs split.1
      | false ↦ λ e. ap (λ ys. x ∷ ys) (none_pass p xs (split.0 e))
    ] refl
