-- The rows of each queue and consumer after an edit of a group.
use Rattle.std.proofs.Common.{◌≡◌, ◌≢◌, ℕ, ◌≤◌, Bool, true, false, not, cond, List, [], ◌∷◌, filter, length, Option, Some, None, IfSome, nat_lt, slice_get, refl, sym, ap, ◌∙◌, arith}
use Rattle.std.specs.List.{All, find}
use Rattle.std.specs.Option.{option_map, option_map_or}
use Rattle.std.specs.Ordering.{is_eq, is_lt}
use Rattle.std.specs.declared.cmp.Ordering.{Ordering}
use Rattle.std.specs.declared.cmp.Ordering.TheVariants.{Less, Equal, Greater}
use Rattle.std.proofs.lemmas.Cmp.{alike_right, tied_itself}
use Rattle.std.proofs.lemmas.List.Elements.{All-cons}
use Rattle.std.proofs.lemmas.Bool.Decides.{nat_tests}
use Rattle.row_tree.specs.Order.{put_in_order}
use Rattle.sort_index.specs.Fitting.{AllFit}
use Rattle.sort_index.specs.Ready.{EditsRows, group_cmp, key, is_of, is_past, is_past_row, rows_of, with_rows}
use Rattle.sort_index.specs.ReadyLaws.{group_cmp_total}
use Rattle.sort_index.specs.declared.group.Group.{Group}
use Rattle.sort_index.specs.declared.group.Ready.{Ready}
use Rattle.row_tree.proofs.Finding.{find_put_other, find_put_here, find_filter_other, none_kept, find_none, find_alike}

pub is_Equal : (o : Ordering) → is_eq o ≡ true → o ≡ Equal
is_Equal Less e = cc e
is_Equal Equal e = refl
is_Equal Greater e = cc e

passes_not : (b : Bool) → not b ≡ false → b ≡ true
passes_not true e = refl
passes_not false e = cc e

-- what ties with the names is of the names that these are
pub alike : (queue : List ℕ) (consumer : Option (List ℕ)) (q : List ℕ) (c : Option (List ℕ)) (g : Group) → group_cmp g (key queue consumer) ≡ Equal
    → is_of q c g ≡ is_of q c (key queue consumer)
alike queue consumer q c g tie = ap is_eq (group_cmp_total.congr g (key queue consumer) (key q c) tie)

-- names that tie have the same groups
pub same_names : (queue : List ℕ) (consumer : Option (List ℕ)) (q : List ℕ) (c : Option (List ℕ)) → is_of q c (key queue consumer) ≡ true → (g : Group) → is_of q c g ≡ is_of queue consumer g
same_names queue consumer q c same g =
    ap is_eq (sym (alike_right group_cmp_total (key queue consumer) (key q c) g (is_Equal (group_cmp (key queue consumer) (key q c)) same)))

other_names : (queue : List ℕ) (consumer : Option (List ℕ)) (q : List ℕ) (c : Option (List ℕ)) → is_of q c (key queue consumer) ≡ false
    → (g : Group) → not (is_of queue consumer g) ≡ false → is_of q c g ≡ false
other_names queue consumer q c other g is = alike queue consumer q c g (is_Equal (group_cmp g (key queue consumer)) (passes_not (is_of queue consumer g) is)) ∙ other

pub rows_put : (queue : List ℕ) (consumer : Option (List ℕ)) (g : Group) (gs : List Group) → group_cmp g (key queue consumer) ≡ Equal → (q : List ℕ) (c : Option (List ℕ))
    → rows_of q c (put_in_order group_cmp g (filter (λ x. not (is_of queue consumer x)) gs)) ≡ cond (is_of q c (key queue consumer)) g.rows (rows_of q c gs)
rows_put queue consumer g gs tie q c =
    let rest = filter (λ x. not (is_of queue consumer x)) gs in
    let R : Option Group → List Ready = λ found. option_map_or (λ group. group.rows) found [] in
    let P : Bool → Type 0 = λ b. is_of q c (key queue consumer) ≡ b → rows_of q c (put_in_order group_cmp g rest) ≡ cond b g.rows (rows_of q c gs) in
    elim (is_of q c (key queue consumer)) as P [
      | true ↦ λ e. ap R (find_put_here group_cmp (is_of q c) g rest (alike queue consumer q c g tie ∙ e) (none_kept (is_of queue consumer) (is_of q c) (same_names queue consumer q c e) gs))
      | false ↦ λ e. ap R (
          find_put_other group_cmp (is_of q c) g rest (alike queue consumer q c g tie ∙ e)
          ∙ find_filter_other (λ x. not (is_of queue consumer x)) (is_of q c) (other_names queue consumer q c e) gs
          )
    ] refl

pub rows_gone : (queue : List ℕ) (consumer : Option (List ℕ)) (gs : List Group) (q : List ℕ) (c : Option (List ℕ))
    → rows_of q c (filter (λ x. not (is_of queue consumer x)) gs) ≡ cond (is_of q c (key queue consumer)) [] (rows_of q c gs)
rows_gone queue consumer gs q c =
    let rest = filter (λ x. not (is_of queue consumer x)) gs in
    let R : Option Group → List Ready = λ found. option_map_or (λ group. group.rows) found [] in
    let P : Bool → Type 0 = λ b. is_of q c (key queue consumer) ≡ b → rows_of q c rest ≡ cond b [] (rows_of q c gs) in
    elim (is_of q c (key queue consumer)) as P [
      | true ↦ λ e. ap R (find_none (is_of q c) rest (none_kept (is_of queue consumer) (is_of q c) (same_names queue consumer q c e) gs))
      | false ↦ λ e. ap R (find_filter_other (λ x. not (is_of queue consumer x)) (is_of q c) (other_names queue consumer q c e) gs)
    ] refl

-- none of the other groups ties with a group of the names
apart : (queue : List ℕ) (consumer : Option (List ℕ)) (g x : Group) → group_cmp g (key queue consumer) ≡ Equal → not (is_of queue consumer x) ≡ true → group_cmp x g ≢ Equal
apart queue consumer g x tie other same =
    let e : is_of queue consumer x ≡ true = ap is_eq (sym (alike_right group_cmp_total g (key queue consumer) x tie) ∙ same) in
    let f = ap not e in
    cc

pub free_group : (queue : List ℕ) (consumer : Option (List ℕ)) (g : Group) (gs : List Group) → group_cmp g (key queue consumer) ≡ Equal
    → All (λ x. group_cmp x g ≢ Equal) (filter (λ x. not (is_of queue consumer x)) gs)
free_group queue consumer g [] tie = λ k d h. absurd (omega arith)
free_group queue consumer g (x ∷ xs) tie =
    let k : Group → Bool = λ y. not (is_of queue consumer y) in
    let P : Bool → Type 0 = λ b. k x ≡ b → All (λ y. group_cmp y g ≢ Equal) (cond b (x ∷ filter k xs) (filter k xs)) in
    elim (k x) as P [
      | true ↦ λ e. All-cons (λ y. group_cmp y g ≢ Equal) x (filter k xs) (apart queue consumer g x tie e) (free_group queue consumer g xs tie)
      | false ↦ λ e. free_group queue consumer g xs tie
    ] refl

pub fit_put : (n : ℕ) (g : Group) (gs : List Group) → length g.rows ≤ n → AllFit n gs → AllFit n (put_in_order group_cmp g gs)
fit_put n g [] few fit = (few, tt)
fit_put n g (x ∷ xs) few fit =
    let P : Bool → Type 0 = λ b. AllFit n (cond b (x ∷ put_in_order group_cmp g xs) (g ∷ x ∷ xs)) in
    elim (is_lt (group_cmp x g)) as P [ true ↦ (fit.0, fit_put n g xs few fit.1) | false ↦ (few, fit) ]

pub fit_kept : (n : ℕ) (p : Group → Bool) (gs : List Group) → AllFit n gs → AllFit n (filter p gs)
fit_kept n p [] fit = tt
fit_kept n p (x ∷ xs) fit =
    let P : Bool → Type 0 = λ b. AllFit n (cond b (x ∷ filter p xs) (filter p xs)) in
    elim (p x) as P [ true ↦ (fit.0, fit_kept n p xs fit.1) | false ↦ fit_kept n p xs fit.1 ]

pub fit_more : (n m : ℕ) (gs : List Group) → n ≤ m → AllFit n gs → AllFit m gs
fit_more n m [] more fit = tt
fit_more n m (x ∷ xs) more fit = (let few = fit.0 in omega arith, fit_more n m xs more fit.1)

pub fit_rows : (n : ℕ) (queue : List ℕ) (consumer : Option (List ℕ)) (gs : List Group) → AllFit n gs → length (rows_of queue consumer gs) ≤ n
fit_rows n queue consumer [] fit = omega arith
fit_rows n queue consumer (x ∷ xs) fit =
    let P : Bool → Type 0 = λ b. length (option_map_or (λ group. group.rows) (cond b (Some x) (find (is_of queue consumer) xs)) []) ≤ n in
    elim (is_of queue consumer x) as P [ true ↦ fit.0 | false ↦ fit_rows n queue consumer xs fit.1 ]

no_rows : (rows : List Ready) → nat_lt 0 (length rows) ≡ false → [] ≡ rows
no_rows [] none = refl
no_rows (x ∷ xs) none = absurd (grind (arith, nat_tests))

pub rows_back : (queue : List ℕ) (consumer : Option (List ℕ)) (g : Group) (gs : List Group) → group_cmp g (key queue consumer) ≡ Equal → (q : List ℕ) (c : Option (List ℕ))
    → rows_of q c (with_rows g (filter (λ x. not (is_of queue consumer x)) gs)) ≡ cond (is_of q c (key queue consumer)) g.rows (rows_of q c gs)
rows_back queue consumer g gs tie q c =
    let rest = filter (λ x. not (is_of queue consumer x)) gs in
    let P : Bool → Type 0 = λ b. nat_lt 0 (length g.rows) ≡ b → rows_of q c (cond b (put_in_order group_cmp g rest) rest) ≡ cond (is_of q c (key queue consumer)) g.rows (rows_of q c gs) in
    elim (nat_lt 0 (length g.rows)) as P [
      | true ↦ λ e. rows_put queue consumer g gs tie q c
      | false ↦ λ e. rows_gone queue consumer gs q c ∙ ap (λ rows. cond (is_of q c (key queue consumer)) rows (rows_of q c gs)) (no_rows g.rows e)
    ] refl

pub fit_back : (n : ℕ) (g : Group) (gs : List Group) → length g.rows ≤ n → AllFit n gs → AllFit n (with_rows g gs)
fit_back n g gs few fit =
    let P : Bool → Type 0 = λ b. AllFit n (cond b (put_in_order group_cmp g gs) gs) in
    elim (nat_lt 0 (length g.rows)) as P [ true ↦ fit_put n g gs few fit | false ↦ fit ]

pub first_any : (rows : List Ready) → slice_get rows 0 ≡ find (is_past None) rows
first_any [] = refl
first_any (x ∷ xs) = refl

pub first_row_any : (rows : List Ready) → slice_get rows 0 ≡ find (is_past_row None) rows
first_row_any [] = refl
first_row_any (x ∷ xs) = refl

pub slots_alike : {S : Type 0} (taken : Option (Ready × S)) (found : Option Ready) → option_map (λ t. t.0) taken ≡ found
    → option_map (λ t. t.0.slot) taken ≡ option_map (λ row. row.slot) found
slots_alike None found same = ap (λ o. option_map (λ (row : Ready). row.slot) o) same
slots_alike (Some t) found same = ap (λ o. option_map (λ (row : Ready). row.slot) o) same

-- an edit that makes the same of the rows
pub edits_alike : (queue : List ℕ) (consumer : Option (List ℕ)) (edit other : List Ready → List Ready) (before after : List Group)
    → edit (rows_of queue consumer before) ≡ other (rows_of queue consumer before) → EditsRows queue consumer edit before after → EditsRows queue consumer other before after
edits_alike queue consumer edit other before after same edits = λ q c.
    edits q c ∙ ap (λ rows. cond (is_of q c (key queue consumer)) rows (rows_of q c before)) same

-- an edit that leaves the rows as they are
pub edits_none : (queue : List ℕ) (consumer : Option (List ℕ)) (edit : List Ready → List Ready) (gs : List Group)
    → edit (rows_of queue consumer gs) ≡ rows_of queue consumer gs → EditsRows queue consumer edit gs gs
edits_none queue consumer edit gs same = λ q c.
    let R : Option Group → List Ready = λ found. option_map_or (λ group. group.rows) found [] in
    let P : Bool → Type 0 = λ b. is_of q c (key queue consumer) ≡ b → rows_of q c gs ≡ cond b (edit (rows_of queue consumer gs)) (rows_of q c gs) in
    elim (is_of q c (key queue consumer)) as P [
      | true ↦ λ e. ap R (find_alike (is_of q c) (is_of queue consumer) (same_names queue consumer q c e) gs) ∙ sym same
      | false ↦ λ e. refl
    ] refl

pub found_passes : (p : Group → Bool) (xs : List Group) (x : Group) → find p xs ≡ Some x → p x ≡ true
found_passes p [] x found = cc found
found_passes p (y ∷ ys) x found =
    let P : Bool → Type 0 = λ b. p y ≡ b → cond b (Some y) (find p ys) ≡ Some x → p x ≡ true in
    elim (p y) as P [ true ↦ λ e f. let same : y ≡ x = cc f in sym (ap p same) ∙ e | false ↦ λ e f. found_passes p ys x f ] refl found

pub named : {S : Type 0} (queue : List ℕ) (consumer : Option (List ℕ)) (gs : List Group) (taken : Option (Group × S)) → option_map (λ t. t.0) taken ≡ find (is_of queue consumer) gs
    → IfSome taken (λ t. group_cmp t.0 (key queue consumer) ≡ Equal)
named queue consumer gs None found = tt
named queue consumer gs (Some t) found = is_Equal (group_cmp t.0 (key queue consumer)) (found_passes (is_of queue consumer) gs t.0 (sym found))

pub own_names : (queue : List ℕ) (consumer : Option (List ℕ)) → group_cmp (key queue consumer) (key queue consumer) ≡ Equal
own_names queue consumer = tied_itself group_cmp_total (key queue consumer)
