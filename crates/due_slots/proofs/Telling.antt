-- Which rows are left, and which there are, when rows are taken out and put in.
use Rattle.std.proofs.Common.{◌≡◌, ◌<◌, ℕ, Bool, true, false, cond, List, [], ◌∷◌, refl, sym, ap, ◌∙◌, subst}
use Rattle.std.specs.Prelude.{◌≢◌, ◌&&◌, ◌||◌, All, not, filter}
use Rattle.std.specs.Cmp.{ranks}
use Rattle.std.specs.Ordering.{MatchOrdering, nat_cmp, ordering_then, ordering_reverse, is_eq, is_lt}
use Rattle.std.specs.declared.cmp.Ordering.{Ordering}
use Rattle.std.specs.declared.cmp.Ordering.TheVariants.{Less, Equal, Greater}
use Rattle.std.proofs.lemmas.Bool.{false≢true}
use Rattle.std.proofs.lemmas.Cmp.{tied_itself}
use Rattle.std.proofs.lemmas.Map.Views.{any-filter_same}
use Rattle.row_tree.specs.Order.{put_in_order}
use Rattle.due_index.specs.Due.{due_cmp, is_other}
use Rattle.due_index.specs.DueLaws.{due_cmp_total, others_differ}
use Rattle.due_index.specs.declared.row.DueRow.{DueRow}
use Rattle.due_slots.specs.Edits.{without, joined}
use Rattle.due_slots.specs.Indexed.{is_row, has}

-- ---- rows that are the same

parts : (o p : Ordering) → is_eq (ordering_then o p) ≡ true → (o ≡ Equal) × (p ≡ Equal)
parts Less p e = absurd (false≢true e)
parts Equal Less e = absurd (false≢true e)
parts Equal Equal e = (refl, refl)
parts Equal Greater e = absurd (false≢true e)
parts Greater p e = absurd (false≢true e)

same_by : (a b : ℕ) (o : Ordering) → MatchOrdering o (a < b) (a ≡ b) (b < a) → o ≡ Equal → a ≡ b
same_by a b Less rank e = cc e
same_by a b Equal rank e = rank
same_by a b Greater rank e = cc e

same_number : (a b : ℕ) → nat_cmp a b ≡ Equal → a ≡ b
same_number a b e = same_by a b (nat_cmp a b) (ranks a b) e

pub same_row : (x y : DueRow) → is_eq (due_cmp x y) ≡ true → x ≡ y
same_row x y e =
    let first = parts (nat_cmp x.moment y.moment) (ordering_then (nat_cmp x.id y.id) (nat_cmp x.slot y.slot)) e in
    let second = parts (nat_cmp x.id y.id) (nat_cmp x.slot y.slot) (ap is_eq first.1) in
    let moment = same_number x.moment y.moment first.0 in
    let id = same_number x.id y.id second.0 in
    let slot = same_number x.slot y.slot second.1 in
    λ i. record { moment = moment i; id = id i; slot = slot i }

pub own_row : (x : DueRow) → is_eq (due_cmp x x) ≡ true
own_row x = ap is_eq (tied_itself due_cmp_total x)

eq_turned : (o : Ordering) → is_eq (ordering_reverse o) ≡ is_eq o
eq_turned Less = refl
eq_turned Equal = refl
eq_turned Greater = refl

turned : (x y : DueRow) → is_eq (due_cmp x y) ≡ is_eq (due_cmp y x)
turned x y = ap is_eq (due_cmp_total.antisymm x y) ∙ eq_turned (due_cmp y x)

-- ---- one row

taken_one : (x : DueRow) (rows : List DueRow) (row : DueRow) → has (filter (is_other x) rows) row ≡ (not (is_row row x) && has rows row)
taken_one x rows row = any-filter_same (is_row row) (is_other x) (not (is_row row x))
    (λ k is. ap not (ap (λ (y : DueRow). is_eq (due_cmp y x)) (same_row k row is) ∙ turned row x)) rows

or_turned : (a b c : Bool) → (b || (a || c)) ≡ (a || (b || c))
or_turned true true c = refl
or_turned true false c = refl
or_turned false true c = refl
or_turned false false c = refl

put_by : (x y : DueRow) (ys : List DueRow) (row : DueRow) (b : Bool) → has (put_in_order due_cmp x ys) row ≡ (is_row row x || has ys row)
    → has (cond b (y ∷ put_in_order due_cmp x ys) (x ∷ y ∷ ys)) row ≡ (is_row row x || (is_row row y || has ys row))
put_by x y ys row true ih = ap (λ b. is_row row y || b) ih ∙ or_turned (is_row row x) (is_row row y) (has ys row)
put_by x y ys row false ih = refl

put_one : (x : DueRow) (rows : List DueRow) (row : DueRow) → has (put_in_order due_cmp x rows) row ≡ (is_row row x || has rows row)
put_one x [] row = refl
put_one x (y ∷ ys) row = put_by x y ys row (is_lt (due_cmp y x)) (put_one x ys row)

-- ---- rows

all_and : (h : Bool) → h ≡ (h && not false)
all_and true = refl
all_and false = refl

take_step : (a h b : Bool) → ((not a && h) && not b) ≡ (h && not (a || b))
take_step true true b = refl
take_step true false b = refl
take_step false true b = refl
take_step false false b = refl

pub without_tells : (rows taken : List DueRow) (row : DueRow) → has (without rows taken) row ≡ (has rows row && not (has taken row))
without_tells rows [] row = all_and (has rows row)
without_tells rows (x ∷ xs) row =
    without_tells (filter (is_other x) rows) xs row
    ∙ ap (λ b. b && not (has xs row)) (taken_one x rows row)
    ∙ take_step (is_row row x) (has rows row) (has xs row)

all_or : (h : Bool) → h ≡ (h || false)
all_or true = refl
all_or false = refl

put_step : (a h b : Bool) → ((a || (not a && h)) || b) ≡ (h || (a || b))
put_step true true b = refl
put_step true false b = refl
put_step false true b = refl
put_step false false b = refl

pub joined_tells : (rows more : List DueRow) (row : DueRow) → has (joined rows more) row ≡ (has rows row || has more row)
joined_tells rows [] row = all_or (has rows row)
joined_tells rows (x ∷ xs) row =
    joined_tells (put_in_order due_cmp x (filter (is_other x) rows)) xs row
    ∙ ap (λ b. b || has xs row) (put_one x (filter (is_other x) rows) row ∙ ap (λ b. is_row row x || b) (taken_one x rows row))
    ∙ put_step (is_row row x) (has rows row) (has xs row)

-- a row that was taken out differs from those that are left
pub differs_after : (row : DueRow) (rows left : List DueRow) → left ≡ filter (is_other row) rows → All (λ other. other ≢ row) left
differs_after row rows left is = subst (λ (xs : List DueRow). All (λ other. other ≢ row) xs) (sym is) (others_differ row rows)
