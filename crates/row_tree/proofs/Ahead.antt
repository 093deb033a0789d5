-- Paths through a tree: a fork more, a fork less, and the row in front.
use Rattle.std.proofs.Common.{◌≡◌, ◌≢◌, ℕ, ◌+◌, suc, zero, List, [], ◌∷◌, ◌++◌, drop, slice_get, option_copied, Option, Some, None, IsSome, IfSome, IfNone, Bor, refl, sym, ap, ◌∙◌, append_assoc, append-nil, arith}
use Rattle.std.specs.Option.{option_to_list}
use Rattle.row_tree.specs.Path.{from_row, ahead, HasRow, HaveRows, IsAhead}
use Rattle.row_tree.specs.declared.tree.Fork.{Fork}

pub ahead_last : {T : Type 0} (forks : List (Option (Bor (Fork T)))) (fork : Option (Bor (Fork T))) → ahead (forks ++ fork ∷ []) ≡ from_row fork ++ ahead forks
ahead_last [] fork = sym (append-nil (from_row fork))
ahead_last (other ∷ forks) fork = ap (λ ys. ys ++ from_row other) (ahead_last forks fork) ∙ append_assoc (from_row fork) (ahead forks) (from_row other)

pub one_more : {T : Type 0} (forks : List (Option (Bor (Fork T)))) (fork : Option (Bor (Fork T))) → HaveRows forks → HasRow fork → HaveRows (forks ++ fork ∷ [])
one_more [] fork have has = (has, tt)
one_more (other ∷ forks) fork have has = (have.0, one_more forks fork have.1 has)

pub one_less : {T : Type 0} (forks : List (Option (Bor (Fork T)))) (fork : Option (Bor (Fork T))) → HaveRows (forks ++ fork ∷ []) → HasRow fork × HaveRows forks
one_less [] fork have = (have.0, tt)
one_less (other ∷ forks) fork have = let less = one_less forks fork have.1 in (less.0, (have.0, less.1))

-- the way on from a fork to the first row left of it
pub goes_left : {T : Type 0} (tree old after : List T) (forks : List (Option (Bor (Fork T)))) (fork : Bor (Fork T))
    → ahead forks ≡ old → fork.now.left ++ (option_to_list fork.now.row ++ fork.now.right) ≡ tree
    → (after ≢ [] → after ≡ fork.now.left ++ ahead (forks ++ Some fork ∷ [])) → after ≢ [] → after ≡ tree ++ old
goes_left tree old after forks fork before is left some =
    left some
    ∙ ap (λ ys. fork.now.left ++ ys) (ahead_last forks (Some fork))
    ∙ sym (append_assoc fork.now.left (option_to_list fork.now.row ++ fork.now.right) (ahead forks))
    ∙ ap (λ ys. ys ++ ahead forks) is
    ∙ ap (λ ys. tree ++ ys) before

rest_of : {T : Type 0} (xs : List T) (at : ℕ) → drop 1 (drop at xs) ≡ drop (at + 1) xs
rest_of xs zero = refl
rest_of [] (suc i) = let on : suc (i + 1) ≡ suc i + 1 = omega arith in ap (λ n. drop n []) on
rest_of (x ∷ xs) (suc i) = let on : suc (i + 1) ≡ suc i + 1 = omega arith in rest_of xs i ∙ ap (λ n. drop n (x ∷ xs)) on

copied_none : {T : Type 0} (found : Option (Bor T)) → option_copied found ≡ None → found ≡ None
copied_none None none = refl
copied_none (Some x) none = cc none

-- a path goes on behind the row in front
pub rest_ahead : {T : Type 0} (rows path after : List T) (at : ℕ) (found : Option (Bor T)) → IsAhead path at rows → option_copied found ≡ slice_get path 0 → found ≢ None
    → (after ≢ [] → after ≡ drop 1 path) → IsAhead after (at + 1) rows
rest_ahead rows path after at found leads row some goes left =
    goes left ∙ ap (drop 1) (leads (λ none. some (copied_none found (row ∙ ap (λ ys. slice_get ys 0) none)))) ∙ rest_of rows at

-- what a path is before its last fork is taken off
pub goes_right : {T : Type 0} (old : List T) (forks : List (Option (Bor (Fork T)))) (fork : Option (Bor (Fork T))) → old ≡ ahead (forks ++ fork ∷ [])
    → IfSome fork (λ it. old ≡ option_to_list it.now.row ++ (it.now.right ++ ahead forks))
goes_right old forks None is = tt
goes_right old forks (Some fork) is = is ∙ ahead_last forks (Some fork) ∙ append_assoc (option_to_list fork.now.row) fork.now.right (ahead forks)

pub has_some : {T : Type 0} (fork : Option (Bor (Fork T))) → HasRow fork → IfSome fork (λ it. IsSome it.now.row)
has_some None has = tt
has_some (Some fork) has = has

pub is_there : {T : Type 0} (fork : Option (Bor (Fork T))) (P : Type 0) → HasRow fork → IfNone fork P
is_there None P has = absurd has
is_there (Some fork) P has = tt
