-- The walk from row to row goes over all rows that are at or before the moment.
use Rattle.std.proofs.Common.{◌≡◌, ◌++◌, ◌&&◌, ℕ, Bool, true, false, not, cond, List, [], ◌∷◌, slice_get, append_assoc, Option, Some, None, refl, sym, ap, ◌∙◌, subst}
use Rattle.std.specs.Prelude.{find, filter, option_map}
use Rattle.std.specs.List.{cons_option}
use Rattle.std.specs.Option.{option_to_list}
use Rattle.std.specs.Ordering.{is_lt, is_gt, ordering_reverse}
use Rattle.std.specs.declared.cmp.Ordering.{Ordering}
use Rattle.std.specs.declared.cmp.Ordering.TheVariants.{Less, Equal, Greater}
use Rattle.std.proofs.lemmas.Cmp.{tied_itself}
use Rattle.std.proofs.lemmas.Bool.{and_parts}
use Rattle.std.proofs.lemmas.Option.{none-some}
use Rattle.row_tree.specs.Order.{IsBeforeAll, IsRising}
use Rattle.due_index.specs.Due.{due_cmp, due_row, is_due, is_past, is_due_past, triple}
use Rattle.due_index.specs.DueLaws.{due_cmp_total}
use Rattle.due_index.specs.declared.row.DueRow.{DueRow}
use Rattle.queue_rows.specs.declared.rows.MsgRow.{MsgRow}
use Rattle.time_manager.specs.Ranks.{rank_of, ranks_of, rows_left}

-- ---- orders

turned : (x y : DueRow) → due_cmp x y ≡ Less → due_cmp y x ≡ Greater
turned x y less = due_cmp_total.antisymm y x ∙ ap ordering_reverse less

back : (o : Ordering) → is_gt o ≡ true → ordering_reverse o ≡ Less
back Less gt = cc gt
back Equal gt = cc gt
back Greater gt = refl

-- what stands past a row that stands past another one does so too
past_up : (r x y : DueRow) → is_past r x ≡ true → due_cmp x y ≡ Less → is_past r y ≡ true
past_up r x y past less =
    let from : due_cmp r x ≡ Less = due_cmp_total.antisymm r x ∙ back (due_cmp x r) past in
    ap is_gt (turned r y (due_cmp_total.trans r x y from less))

-- ---- lists

first_by : {X : Type 0} (p : X → Bool) (x : X) (xs : List X) (b : Bool) → find p xs ≡ slice_get (filter p xs) 0
    → cond b (Some x) (find p xs) ≡ slice_get (cond b (x ∷ filter p xs) (filter p xs)) 0
first_by p x xs true ih = refl
first_by p x xs false ih = ih

first_of_filter : {X : Type 0} (p : X → Bool) (xs : List X) → find p xs ≡ slice_get (filter p xs) 0
first_of_filter p [] = refl
first_of_filter p (x ∷ xs) = first_by p x xs (p x) (first_of_filter p xs)

same_before : (p q : DueRow → Bool) (x : DueRow) (xs : List DueRow) → IsBeforeAll due_cmp x xs → ((y : DueRow) → due_cmp x y ≡ Less → p y ≡ q y) → filter p xs ≡ filter q xs
same_before p q x [] before same = refl
same_before p q x (y ∷ ys) before same =
    (λ i. cond (same y before.0 i) (y ∷ same_before p q x ys before.1 same i) (same_before p q x ys before.1 same i))

found_by : (p : DueRow → Bool) (x y z : DueRow) (zs : List DueRow) (b : Bool) → due_cmp x z ≡ Less → (find p zs ≡ Some y → due_cmp x y ≡ Less)
    → cond b (Some z) (find p zs) ≡ Some y → due_cmp x y ≡ Less
found_by p x y z zs true less ih e = let same : z ≡ y = cc e in subst (λ (w : DueRow). due_cmp x w ≡ Less) same less
found_by p x y z zs false less ih e = ih e

found_before : (p : DueRow → Bool) (x y : DueRow) (xs : List DueRow) → IsBeforeAll due_cmp x xs → find p xs ≡ Some y → due_cmp x y ≡ Less
found_before p x y [] before found = absurd (none-some y found)
found_before p x y (z ∷ zs) before found = found_by p x y z zs (p z) before.0 (found_before p x y zs before.1) found

-- ---- the rows from one on

abbrev is_left_from : ℕ → DueRow → DueRow → Bool
is_left_from m r = λ x. is_due m x && not (is_lt (due_cmp x r))

abbrev left_of : ℕ → List DueRow → Option DueRow → List DueRow
left_of m rows None = []
left_of m rows (Some r) = filter (is_left_from m r) rows

left_as : (m : ℕ) (rows : List DueRow) (o : Option DueRow) → rows_left m rows (option_map triple o) ≡ left_of m rows o
left_as m rows None = refl
left_as m rows (Some r) = refl

and_true : (b : Bool) → (b && true) ≡ b
and_true true = refl
and_true false = refl

and_false : (b : Bool) → (b && false) ≡ false
and_false true = refl
and_false false = refl

module _ (A : DueRow → Bool) (up : (x y : DueRow) → A x ≡ true → due_cmp x y ≡ Less → A y ≡ true) (m : ℕ) where
  skipped : (x : DueRow) (xs : List DueRow) (o : Option DueRow) → ((y : DueRow) → o ≡ Some y → due_cmp x y ≡ Less) → left_of m (x ∷ xs) o ≡ left_of m xs o
  skipped x xs None before = refl
  skipped x xs (Some y) before =
      let less = before y refl in
      let fails : is_left_from m y x ≡ false = ap (λ o. is_due m x && not (is_lt o)) less ∙ and_false (is_due m x) in
      ap (λ b. cond b (x ∷ filter (is_left_from m y) xs) (filter (is_left_from m y) xs)) fails

  found_left_by : (x : DueRow) (xs : List DueRow) (b : Bool) → (A x && is_due m x) ≡ b → IsBeforeAll due_cmp x xs
      → left_of m xs (find (λ y. A y && is_due m y) xs) ≡ filter (λ y. A y && is_due m y) xs
      → left_of m (x ∷ xs) (cond b (Some x) (find (λ y. A y && is_due m y) xs)) ≡ cond b (x ∷ filter (λ y. A y && is_due m y) xs) (filter (λ y. A y && is_due m y) xs)
  found_left_by x xs true e before ih =
      let parts = and_parts (A x) (is_due m x) e in
      let own : is_left_from m x x ≡ true = ap (λ o. is_due m x && not (is_lt o)) (tied_itself due_cmp_total x) ∙ and_true (is_due m x) ∙ parts.1 in
      ap (λ b. cond b (x ∷ filter (is_left_from m x) xs) (filter (is_left_from m x) xs)) own
      ∙ ap (λ ys. x ∷ ys) (same_before (is_left_from m x) (λ y. A y && is_due m y) x xs before (λ y less.
      ap (λ o. is_due m y && not (is_lt o)) (turned x y less) ∙ and_true (is_due m y) ∙ sym (ap (λ b. b && is_due m y) (up x y parts.0 less))))
  found_left_by x xs false e before ih =
      skipped x xs (find (λ y. A y && is_due m y) xs) (λ y found. found_before (λ z. A z && is_due m z) x y xs before found) ∙ ih

  -- from the first that passes on, all that pass are left
  found_left : (rows : List DueRow) → IsRising due_cmp rows → left_of m rows (find (λ x. A x && is_due m x) rows) ≡ filter (λ x. A x && is_due m x) rows
  found_left [] rising = refl
  found_left (x ∷ xs) rising = found_left_by x xs (A x && is_due m x) refl rising.0 (found_left xs rising.1)

-- ---- the walk

neither : (o : Ordering) (b : Bool) → (b && not (is_lt o)) ≡ false → (is_gt o && b) ≡ false
neither Less b e = refl
neither Equal b e = refl
neither Greater b e = sym (and_true b) ∙ e

stepped_by : (m : ℕ) (r x : DueRow) (xs : List DueRow) (b : Bool) → is_left_from m r x ≡ b → IsBeforeAll due_cmp x xs
    → (slice_get (filter (is_left_from m r) xs) 0 ≡ Some r → filter (is_left_from m r) xs ≡ r ∷ filter (λ y. is_past r y && is_due m y) xs)
    → slice_get (cond b (x ∷ filter (is_left_from m r) xs) (filter (is_left_from m r) xs)) 0 ≡ Some r
    → cond b (x ∷ filter (is_left_from m r) xs) (filter (is_left_from m r) xs) ≡ r ∷ filter (λ y. is_past r y && is_due m y) (x ∷ xs)
stepped_by m r x xs true e before ih first =
    let same : x ≡ r = cc first in
    let tied : due_cmp x r ≡ Equal = ap (λ y. due_cmp y r) same ∙ tied_itself due_cmp_total r in
    let gone : (is_past r x && is_due m x) ≡ false = ap (λ o. is_gt o && is_due m x) tied in
    let tails : filter (is_left_from m r) xs ≡ filter (λ y. is_past r y && is_due m y) xs =
    same_before (is_left_from m r) (λ y. is_past r y && is_due m y) x xs before (λ y less.
    let greater : due_cmp y r ≡ Greater = ap (due_cmp y) (sym same) ∙ turned x y less in
    ap (λ o. is_due m y && not (is_lt o)) greater ∙ and_true (is_due m y) ∙ sym (ap (λ o. is_gt o && is_due m y) greater)) in
    (λ i. same i ∷ tails i)
    ∙ sym (ap (λ b. r ∷ cond b (x ∷ filter (λ y. is_past r y && is_due m y) xs) (filter (λ y. is_past r y && is_due m y) xs)) gone)
stepped_by m r x xs false e before ih first =
    ih first
    ∙ sym (ap (λ b. r ∷ cond b (x ∷ filter (λ y. is_past r y && is_due m y) xs) (filter (λ y. is_past r y && is_due m y) xs)) (neither (due_cmp x r) (is_due m x) e))

-- the row itself, and those past it
stepped : (m : ℕ) (r : DueRow) (rows : List DueRow) → IsRising due_cmp rows → slice_get (filter (is_left_from m r) rows) 0 ≡ Some r
    → filter (is_left_from m r) rows ≡ r ∷ filter (λ x. is_past r x && is_due m x) rows
stepped m r [] rising at = absurd (none-some r at)
stepped m r (x ∷ xs) rising at = stepped_by m r x xs (is_left_from m r x) refl rising.0 (stepped m r xs rising.1) at

-- the next row is the first of those that are left
abbrev pub IsFirstLeft : ℕ → List DueRow → Option (ℕ × ℕ × ℕ) → Type 0
IsFirstLeft m rows next = option_map triple (slice_get (rows_left m rows next) 0) ≡ next

pub record Begins (m : ℕ) (rows : List DueRow) (next : Option (ℕ × ℕ × ℕ)) : Type 0 where
  pub all : rows_left m rows next ≡ filter (is_due m) rows
  pub first : IsFirstLeft m rows next

begun : (m : ℕ) (rows : List DueRow) (o : Option DueRow) → left_of m rows o ≡ filter (is_due m) rows → o ≡ find (is_due m) rows → Begins m rows (option_map triple o)
begun m rows o all found =
    let left = left_as m rows o ∙ all in
    record {
      all = left;
      first = ap (λ xs. option_map triple (slice_get xs 0)) left ∙ sym (ap (option_map triple) (found ∙ first_of_filter (is_due m) rows));
    }

pub begins : (m : ℕ) (rows : List DueRow) (next : Option (ℕ × ℕ × ℕ)) → IsRising due_cmp rows → next ≡ option_map triple (find (is_due m) rows) → Begins m rows next
begins m rows next rising is =
    subst (λ (n : Option (ℕ × ℕ × ℕ)). Begins m rows n) (sym is)
    (begun m rows (find (is_due m) rows) (found_left (λ x. true) (λ x y up less. refl) m rows rising) refl)

pub record GoesOn (m : ℕ) (rows : List DueRow) (r next : Option (ℕ × ℕ × ℕ)) (row : DueRow) : Type 0 where
  pub left : rows_left m rows r ≡ row ∷ rows_left m rows next
  pub first : IsFirstLeft m rows next

some_row : (o : Option DueRow) (row : DueRow) → option_map triple o ≡ Some (triple row) → o ≡ Some row
some_row None row e = absurd (none-some (triple row) e)
some_row (Some x) row e =
    let same : triple x ≡ triple row = cc e in
    (λ i. Some (due_row (same i).0 (same i).1 (same i).2))

pub goes_on : (m : ℕ) (rows : List DueRow) (row : DueRow) (next : Option (ℕ × ℕ × ℕ)) → IsRising due_cmp rows → IsFirstLeft m rows (Some (triple row))
    → next ≡ option_map triple (find (is_due_past row m) rows) → GoesOn m rows (Some (triple row)) next row
goes_on m rows row next rising first is = subst (λ (n : Option (ℕ × ℕ × ℕ)). GoesOn m rows (Some (triple row)) n row) (sym is) goes
  where
    found : left_of m rows (find (is_due_past row m) rows) ≡ filter (is_due_past row m) rows
    found = found_left (is_past row) (past_up row) m rows rising

    goes : GoesOn m rows (Some (triple row)) (option_map triple (find (is_due_past row m) rows)) row
    goes =
        let left = left_as m rows (find (is_due_past row m) rows) ∙ found in
        record {
          left = stepped m row rows rising (some_row (slice_get (filter (is_left_from m row) rows) 0) row first) ∙ sym (ap (λ xs. row ∷ xs) left);
          first = ap (λ xs. option_map triple (slice_get xs 0)) left ∙ sym (ap (option_map triple) (first_of_filter (is_due_past row m) rows));
        }

-- ---- what the rows name

cons_as : {X : Type 0} (o : Option X) (xs : List X) → cons_option o xs ≡ option_to_list o ++ xs
cons_as None xs = refl
cons_as (Some x) xs = refl

pub named_on : (messages : List MsgRow) (ranks : List ℕ) (row : DueRow) (rest : List DueRow)
    → (ranks ++ option_to_list (rank_of messages row.id)) ++ ranks_of messages rest ≡ ranks ++ ranks_of messages (row ∷ rest)
named_on messages ranks row rest =
    append_assoc ranks (option_to_list (rank_of messages row.id)) (ranks_of messages rest) ∙ ap (λ xs. ranks ++ xs) (sym (cons_as (rank_of messages row.id) (ranks_of messages rest)))
