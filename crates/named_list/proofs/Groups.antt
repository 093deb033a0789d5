-- The stamps of each name after an edit of a group.
use Rattle.std.proofs.Common.{◌≡◌, ◌≢◌, ℕ, Bool, true, false, not, cond, List, [], ◌∷◌, filter, Option, Some, None, IfSome, refl, sym, ap, ◌∙◌, arith}
use Rattle.std.specs.List.{All, find}
use Rattle.std.specs.Option.{option_map, option_map_or}
use Rattle.std.specs.Ordering.{is_eq}
use Rattle.std.specs.declared.cmp.Ordering.{Ordering}
use Rattle.std.specs.declared.cmp.Ordering.TheVariants.{Less, Equal, Greater}
use Rattle.std.proofs.lemmas.Cmp.{alike_right, tied_itself}
use Rattle.std.proofs.lemmas.List.Elements.{All-cons}
use Rattle.row_tree.specs.Order.{put_in_order}
use Rattle.named_list.specs.Order.{group_cmp, group_cmp_total, key}
use Rattle.named_list.specs.Stamps.{is_of, stamps_in}
use Rattle.named_list.specs.declared.entry.Stamp.{Stamp}
use Rattle.named_list.specs.declared.group.Group.{Group}
use Rattle.row_tree.proofs.Finding.{find_put_other, find_put_here, find_filter_other, none_kept, find_none}

pub is_Equal : (o : Ordering) → is_eq o ≡ true → o ≡ Equal
is_Equal Less e = cc e
is_Equal Equal e = refl
is_Equal Greater e = cc e

passes_not : (b : Bool) → not b ≡ false → b ≡ true
passes_not true e = refl
passes_not false e = cc e

-- what ties with the names is of the names that these are
alike : (name : List ℕ) (n : List ℕ) (g : Group) → group_cmp g (key name) ≡ Equal
    → is_of n g ≡ is_of n (key name)
alike name n g tie = ap is_eq (group_cmp_total.congr g (key name) (key n) tie)

-- names that tie have the same groups
same_names : (name : List ℕ) (n : List ℕ) → is_of n (key name) ≡ true → (g : Group) → is_of n g ≡ is_of name g
same_names name n same g =
    ap is_eq (sym (alike_right group_cmp_total (key name) (key n) g (is_Equal (group_cmp (key name) (key n)) same)))

other_names : (name : List ℕ) (n : List ℕ) → is_of n (key name) ≡ false
    → (g : Group) → not (is_of name g) ≡ false → is_of n g ≡ false
other_names name n other g is = alike name n g (is_Equal (group_cmp g (key name)) (passes_not (is_of name g) is)) ∙ other

pub stamps_put : (name : List ℕ) (g : Group) (gs : List Group) → group_cmp g (key name) ≡ Equal → (n : List ℕ)
    → stamps_in n (put_in_order group_cmp g (filter (λ x. not (is_of name x)) gs)) ≡ cond (is_of n (key name)) g.stamps (stamps_in n gs)
stamps_put name g gs tie n =
    let rest = filter (λ x. not (is_of name x)) gs in
    let R : Option Group → List Stamp = λ found. option_map_or (λ group. group.stamps) found [] in
    let P : Bool → Type 0 = λ b. is_of n (key name) ≡ b → stamps_in n (put_in_order group_cmp g rest) ≡ cond b g.stamps (stamps_in n gs) in
    elim (is_of n (key name)) as P [
      | true ↦ λ e. ap R (find_put_here group_cmp (is_of n) g rest (alike name n g tie ∙ e) (none_kept (is_of name) (is_of n) (same_names name n e) gs))
      | false ↦ λ e. ap R (
          find_put_other group_cmp (is_of n) g rest (alike name n g tie ∙ e)
          ∙ find_filter_other (λ x. not (is_of name x)) (is_of n) (other_names name n e) gs
          )
    ] refl

pub stamps_gone : (name : List ℕ) (gs : List Group) (n : List ℕ)
    → stamps_in n (filter (λ x. not (is_of name x)) gs) ≡ cond (is_of n (key name)) [] (stamps_in n gs)
stamps_gone name gs n =
    let rest = filter (λ x. not (is_of name x)) gs in
    let R : Option Group → List Stamp = λ found. option_map_or (λ group. group.stamps) found [] in
    let P : Bool → Type 0 = λ b. is_of n (key name) ≡ b → stamps_in n rest ≡ cond b [] (stamps_in n gs) in
    elim (is_of n (key name)) as P [
      | true ↦ λ e. ap R (find_none (is_of n) rest (none_kept (is_of name) (is_of n) (same_names name n e) gs))
      | false ↦ λ e. ap R (find_filter_other (λ x. not (is_of name x)) (is_of n) (other_names name n e) gs)
    ] refl

-- none of the other groups ties with a group of the names
apart : (name : List ℕ) (g x : Group) → group_cmp g (key name) ≡ Equal → not (is_of name x) ≡ true → group_cmp x g ≢ Equal
apart name g x tie other same =
    let e : is_of name x ≡ true = ap is_eq (sym (alike_right group_cmp_total g (key name) x tie) ∙ same) in
    let f = ap not e in
    cc

pub free_group : (name : List ℕ) (g : Group) (gs : List Group) → group_cmp g (key name) ≡ Equal
    → All (λ x. group_cmp x g ≢ Equal) (filter (λ x. not (is_of name x)) gs)
free_group name g [] tie = λ k d h. absurd (omega arith)
free_group name g (x ∷ xs) tie =
    let k : Group → Bool = λ y. not (is_of name y) in
    let P : Bool → Type 0 = λ b. k x ≡ b → All (λ y. group_cmp y g ≢ Equal) (cond b (x ∷ filter k xs) (filter k xs)) in
    elim (k x) as P [
      | true ↦ λ e. All-cons (λ y. group_cmp y g ≢ Equal) x (filter k xs) (apart name g x tie e) (free_group name g xs tie)
      | false ↦ λ e. free_group name g xs tie
    ] refl

found_passes : (p : Group → Bool) (xs : List Group) (x : Group) → find p xs ≡ Some x → p x ≡ true
found_passes p [] x found = cc found
found_passes p (y ∷ ys) x found =
    let P : Bool → Type 0 = λ b. p y ≡ b → cond b (Some y) (find p ys) ≡ Some x → p x ≡ true in
    elim (p y) as P [ true ↦ λ e f. let same : y ≡ x = cc f in sym (ap p same) ∙ e | false ↦ λ e f. found_passes p ys x f ] refl found

pub named : {S : Type 0} (name : List ℕ) (gs : List Group) (taken : Option (Group × S)) → option_map (λ t. t.0) taken ≡ find (is_of name) gs
    → IfSome taken (λ t. group_cmp t.0 (key name) ≡ Equal)
named name gs None found = tt
named name gs (Some t) found = is_Equal (group_cmp t.0 (key name)) (found_passes (is_of name) gs t.0 (sym found))

pub own_names : (name : List ℕ) → group_cmp (key name) (key name) ≡ Equal
own_names name = tied_itself group_cmp_total (key name)
