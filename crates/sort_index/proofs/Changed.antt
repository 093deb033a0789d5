-- The rows of each queue and consumer after a change of a group where it stands, or with a group more.
use Rattle.std.proofs.Common.{◌≡◌, ◌≢◌, ℕ, ◌+◌, ◌<◌, ◌≤◌, Bool, true, false, not, cond, List, [], ◌∷◌, filter, length, Option, Some, None, Result, Ok, Err, IfOk, OnErr, OnOk, IfSome, refl, sym, ap, ◌∙◌, subst, arith}
use Rattle.std.proofs.lemmas.Bool.Decides.{nat_tests}
use Rattle.std.specs.Prelude.{◌==◌}
use Rattle.std.specs.List.{All, find}
use Rattle.std.specs.Option.{option_map, option_map_or}
use Rattle.std.specs.Ordering.{is_eq, is_lt}
use Rattle.std.specs.declared.cmp.Ordering.{Ordering}
use Rattle.std.specs.declared.cmp.Ordering.TheVariants.{Equal}
use Rattle.row_tree.specs.Changes.{IsToldOf, change_where, set_in_order}
use Rattle.row_tree.specs.Order.{put_in_order}
use Rattle.row_tree.proofs.Finding.{find_alike, find_none, none_kept}
use Rattle.sort_index.specs.Fitting.{AllFit}
use Rattle.sort_index.specs.Ready.{EditsRows, group_cmp, is_of, key, ready_cmp, rows_of}
use Rattle.sort_index.specs.declared.group.Group.{Group}
use Rattle.sort_index.specs.declared.group.Ready.{Ready}
use Rattle.sort_index.proofs.Groups.{alike, fit_more, found_passes, free_group, is_Equal, rows_gone, rows_put, same_names}

-- a group with its rows edited
abbrev pub edited : (List Ready → List Ready) → Group → Group
edited edit group = record group { rows = edit group.rows }

-- the rows of a group, if there is one
abbrev pub rows_in : Option Group → List Ready
rows_in found = option_map_or (λ group. group.rows) found []

find_changed : (p r : Group → Bool) (f : Group → Group) → ((g : Group) → r (f g) ≡ r g) → (gs : List Group)
    → find r (change_where p f gs) ≡ option_map (λ g. cond (p g) (f g) g) (find r gs)
find_changed p r f same [] = refl
find_changed p r f same (g ∷ gs) =
    let own : Group → Group = λ x. cond (p x) (f x) x in
    let H : Bool → Type 0 = λ b. r (cond b (f g) g) ≡ r g in
    let head : r (own g) ≡ r g = elim (p g) as H [ true ↦ same g | false ↦ refl ] in
    let P : Bool → Type 0 = λ b. cond b (Some (own g)) (find r (change_where p f gs)) ≡ option_map own (cond b (Some g) (find r gs)) in
    ap (λ b. cond b (Some (own g)) (find r (change_where p f gs))) head ∙ elim (r g) as P [ true ↦ refl | false ↦ find_changed p r f same gs ]

module _ (queue : List ℕ) (consumer : Option (List ℕ)) (edit : List Ready → List Ready) (gs : List Group) where
  abbrev changed : List Group
  changed = change_where (is_of queue consumer) (edited edit) gs

  abbrev own : Group → Group
  own g = cond (is_of queue consumer g) (edited edit g) g

  own_changed : (o : Option Group) → find (is_of queue consumer) gs ≡ o → o ≢ None → rows_in (option_map own o) ≡ edit (rows_in o)
  own_changed None there some = absurd (some refl)
  own_changed (Some g) there some = ap (λ b. (cond b (edited edit g) g).rows) (found_passes (is_of queue consumer) gs g there)

  other_stays : (q : List ℕ) (c : Option (List ℕ)) → is_of q c (key queue consumer) ≡ false → (o : Option Group) → find (is_of q c) gs ≡ o → rows_in (option_map own o) ≡ rows_in o
  other_stays q c other None there = refl
  other_stays q c other (Some g) there =
      let passes = found_passes (is_of q c) gs g there in
      let P : Bool → Type 0 = λ b. is_of queue consumer g ≡ b → (cond b (edited edit g) g).rows ≡ g.rows in
      elim (is_of queue consumer g) as P [
        | true ↦ λ e. let same = alike queue consumer q c g (is_Equal (group_cmp g (key queue consumer)) e) in let both : true ≡ false = sym passes ∙ same ∙ other in cc both
        | false ↦ λ e. refl
      ] refl

  pub rows_changed : find (is_of queue consumer) gs ≢ None → EditsRows queue consumer edit gs changed
  rows_changed some q c =
      let p = is_of queue consumer in
      let moved = find_changed p (is_of q c) (edited edit) (λ g. refl) gs in
      let P : Bool → Type 0 = λ b. is_of q c (key queue consumer) ≡ b → rows_of q c changed ≡ cond b (edit (rows_of queue consumer gs)) (rows_of q c gs) in
      elim (is_of q c (key queue consumer)) as P [
        | true ↦ λ e. ap rows_in (moved ∙ ap (option_map own) (find_alike (is_of q c) p (same_names queue consumer q c e) gs)) ∙ own_changed (find p gs) refl some
        | false ↦ λ e. ap rows_in moved ∙ other_stays q c e (find (is_of q c) gs) refl
      ] refl

  -- where no row is left the group goes
  pub rows_emptied : find (is_of queue consumer) gs ≢ None → edit (rows_of queue consumer gs) ≡ [] → EditsRows queue consumer edit gs (filter (λ g. not (is_of queue consumer g)) changed)
  rows_emptied some none q c =
      let all = edit (rows_of queue consumer gs) in
      let P : Bool → Type 0 = λ b. is_of q c (key queue consumer) ≡ b → cond b [] (rows_of q c changed) ≡ cond b all (rows_of q c gs) in
      rows_gone queue consumer changed q c
      ∙ elim (is_of q c (key queue consumer)) as P [
        | true ↦ λ e. sym none
        | false ↦ λ e. rows_changed some q c ∙ ap (λ b. cond b all (rows_of q c gs)) e
      ] refl

all_others : (p : Group → Bool) (gs : List Group) → find p gs ≡ None → filter (λ g. not (p g)) gs ≡ gs
all_others p [] none = refl
all_others p (x ∷ xs) none =
    let rest = filter (λ g. not (p g)) xs in
    let P : Bool → Type 0 = λ b. cond b (Some x) (find p xs) ≡ None → cond (not b) (x ∷ rest) rest ≡ (x ∷ xs) in
    elim (p x) as P [ true ↦ λ e. cc e | false ↦ λ e. ap (λ gs. x ∷ gs) (all_others p xs e) ] none

-- a group more, of names that had none
module _ (queue : List ℕ) (consumer : Option (List ℕ)) (g : Group) (gs : List Group) (tie : group_cmp g (key queue consumer) ≡ Equal) (none : find (is_of queue consumer) gs ≡ None) where
  pub rows_new : (edit : List Ready → List Ready) → g.rows ≡ edit [] → EditsRows queue consumer edit gs (put_in_order group_cmp g gs)
  rows_new edit rows q c =
      let others = all_others (is_of queue consumer) gs none in
      ap (λ xs. rows_of q c (put_in_order group_cmp g xs)) (sym others)
      ∙ rows_put queue consumer g gs tie q c
      ∙ ap (λ rs. cond (is_of q c (key queue consumer)) rs (rows_of q c gs)) (rows ∙ ap edit (sym (ap rows_in none)))

  pub free_new : All (λ x. group_cmp x g ≢ Equal) gs
  free_new = subst (λ (xs : List Group). All (λ x. group_cmp x g ≢ Equal) xs) (all_others (is_of queue consumer) gs none) (free_group queue consumer g gs tie)

-- where there is no group there are no rows
pub rows_none : (queue : List ℕ) (consumer : Option (List ℕ)) (gs : List Group) → find (is_of queue consumer) gs ≡ None → rows_of queue consumer gs ≡ []
rows_none queue consumer gs none = ap rows_in none

-- ---- what a change tells

pub told_some : {T U : Type 0} (tells : T → U) (told : U) (o : Option T) → option_map tells o ≡ Some told → o ≢ None
told_some tells told None is = λ e. cc is
told_some tells told (Some x) is = λ e. cc e

pub told_rows : {U : Type 0} (tells : List Ready → U) (told : U) (o : Option Group) → option_map (λ g. tells g.rows) o ≡ Some told → told ≡ tells (rows_in o)
told_rows tells told None is = cc is
told_rows tells told (Some g) is = cc is

-- a group that was taken out is not found
pub group_gone : (queue : List ℕ) (consumer : Option (List ℕ)) (gs : List Group) → find (is_of queue consumer) (filter (λ g. not (is_of queue consumer g)) gs) ≡ None
group_gone queue consumer gs =
    let p = is_of queue consumer in
    find_none p (filter (λ g. not (p g)) gs) (none_kept p p (λ g. refl) gs)

pub rows_left : (rows : List Ready) → (length rows == 0) ≡ false → rows ≢ []
rows_left [] some = λ e. cc some
rows_left (x ∷ xs) some = λ e. cc e

pub no_rows_left : (rows : List Ready) → (length rows == 0) ≡ true → rows ≡ []
no_rows_left [] none = refl
no_rows_left (x ∷ xs) none = absurd (grind (arith, nat_tests))

-- ---- the bound on the rows of each group

pub fit_changed : (n m : ℕ) (p : Group → Bool) (edit : List Ready → List Ready) → n ≤ m → ((rows : List Ready) → length rows ≤ n → length (edit rows) ≤ m) → (gs : List Group) → AllFit n gs
    → AllFit m (change_where p (edited edit) gs)
fit_changed n m p edit more few [] fit = tt
fit_changed n m p edit more few (x ∷ xs) fit =
    let P : Bool → Type 0 = λ b. length (cond b (edited edit x) x).rows ≤ m in
    let first : P (p x) = elim (p x) as P [ true ↦ few x.rows fit.0 | false ↦ let old = fit.0 in omega arith ] in
    (first, fit_changed n m p edit more few xs fit.1)

pub fit_found : (n m : ℕ) (p : Group → Bool) → n + 1 < m → (gs : List Group) → AllFit n gs → IfSome (find p gs) (λ g. length g.rows + 1 < m)
fit_found n m p below [] fit = tt
fit_found n m p below (x ∷ xs) fit =
    let P : Bool → Type 0 = λ b. IfSome (cond b (Some x) (find p xs)) (λ g. length g.rows + 1 < m) in
    elim (p x) as P [ true ↦ let few = fit.0 in omega arith | false ↦ fit_found n m p below xs fit.1 ]

pub kept_few : {T : Type 0} (p : T → Bool) (xs : List T) → length (filter p xs) ≤ length xs
kept_few p [] = omega arith
kept_few p (x ∷ xs) =
    let less = kept_few p xs in
    let P : Bool → Type 0 = λ b. length (cond b (x ∷ filter p xs) (filter p xs)) ≤ length (x ∷ xs) in
    elim (p x) as P [ true ↦ omega arith | false ↦ omega arith ]

put_one : {T : Type 0} (order : T → T → Ordering) (x : T) (xs : List T) → length (put_in_order order x xs) ≡ length xs + 1
put_one order x [] = refl
put_one order x (y ∷ ys) =
    let more = put_one order x ys in
    let P : Bool → Type 0 = λ b. length (cond b (y ∷ put_in_order order x ys) (x ∷ y ∷ ys)) ≡ length (y ∷ ys) + 1 in
    elim (is_lt (order y x)) as P [ true ↦ omega arith | false ↦ omega arith ]

pub set_few : (row : Ready) (rows : List Ready) → length (set_in_order ready_cmp row rows) ≤ length rows + 1
set_few row rows =
    let p : Ready → Bool = λ other. not (is_eq (ready_cmp other row)) in
    let less = kept_few p rows in
    let more = put_one ready_cmp row (filter p rows) in
    omega arith

-- ---- a row that is put in where the group stands

module _ {U E : Type 0} (queue : List ℕ) (consumer : Option (List ℕ)) (row : Ready) (before after : List Group) where
  pub set_edits : (tells : Group → U) (r : Result U E) → IfOk r (λ told. IsToldOf tells told (find (is_of queue consumer) before))
      → OnOk r (after ≡ change_where (is_of queue consumer) (edited (set_in_order ready_cmp row)) before)
      → OnOk r (EditsRows queue consumer (set_in_order ready_cmp row) before after)
  set_edits tells (Ok told) is rows =
      subst (λ (gs : List Group). EditsRows queue consumer (set_in_order ready_cmp row) before gs) (sym rows)
      (rows_changed queue consumer (set_in_order ready_cmp row) before (told_some tells told (find (is_of queue consumer) before) is))
  set_edits tells (Err e) is rows = tt

  pub set_fits : (r : Result U E) (n : ℕ) → OnOk r (after ≡ change_where (is_of queue consumer) (edited (set_in_order ready_cmp row)) before) → OnErr r (after ≡ before)
      → AllFit n before → AllFit (n + 1) after
  set_fits (Ok told) n rows kept fit =
      let more : n ≤ n + 1 = omega arith in
      subst (λ (gs : List Group). AllFit (n + 1) gs) (sym rows)
      (fit_changed n (n + 1) (is_of queue consumer) (set_in_order ready_cmp row) more (λ rs few. let most = set_few row rs in omega arith) before fit)
  set_fits (Err e) n rows kept fit =
      let more : n ≤ n + 1 = omega arith in
      subst (λ (gs : List Group). AllFit (n + 1) gs) (sym kept) (fit_more n (n + 1) before more fit)
