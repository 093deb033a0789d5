-- The least row that is due, found from the front and from a row on.
use Rattle.std.proofs.Common.{◌≡◌, ℕ, ◌<◌, ◌≤◌, ◌&&◌, Bool, true, false, not, cond, List, [], ◌∷◌, slice_get, nat_le, Some, refl, ap, ◌∙◌, arith}
use Rattle.std.specs.Cmp.{ranks}
use Rattle.std.specs.List.{find}
use Rattle.std.specs.Ordering.{MatchOrdering, nat_cmp, ordering_then, is_lt, is_gt}
use Rattle.std.specs.declared.cmp.Ordering.{Ordering}
use Rattle.std.specs.declared.cmp.Ordering.TheVariants.{Less, Equal, Greater}
use Rattle.std.proofs.lemmas.Bool.Decides.{nat_tests}
use Rattle.row_tree.specs.Found.{kept_by, Ends, found_first}
use Rattle.row_tree.specs.Order.{IsRising, past_row}
use Rattle.due_index.specs.Due.{due_cmp, is_due, is_past}
use Rattle.due_index.specs.declared.row.DueRow.{DueRow}

not_after : (a b : ℕ) (o r : Ordering) → MatchOrdering o (a < b) (a ≡ b) (b < a) → ordering_then o r ≡ Less → a ≤ b
not_after a b Less r rank less = omega arith
not_after a b Equal r rank less = omega arith
not_after a b Greater r rank less = cc less

moment_rises : (x y : DueRow) → due_cmp x y ≡ Less → x.moment ≤ y.moment
moment_rises x y less =
    not_after x.moment y.moment (nat_cmp x.moment y.moment) (ordering_then (nat_cmp x.id y.id) (nat_cmp x.slot y.slot)) (ranks x.moment y.moment) less

later : (a b m : ℕ) → a ≤ b → nat_le a m ≡ false → nat_le b m ≡ false
later a b m le fails = grind (arith, nat_tests)

due_ends : (p : DueRow → Bool) (m : ℕ) → Ends due_cmp p (is_due m)
due_ends p m x y passes fails less = later x.moment y.moment m (moment_rises x y less) fails

pub due_first : (m : ℕ) (rows : List DueRow) → IsRising due_cmp rows → kept_by (is_due m) (slice_get rows 0) ≡ find (is_due m) rows
due_first m [] rising = refl
due_first m (x ∷ xs) rising = found_first (λ _. true) (is_due m) (due_ends (λ _. true) m) (x ∷ xs) rising

past : (o : Ordering) → not (is_lt (past_row o)) ≡ is_gt o
past Less = refl
past Equal = refl
past Greater = refl

find_same : {T : Type 0} (p q : T → Bool) → ((x : T) → p x ≡ q x) → (xs : List T) → find p xs ≡ find q xs
find_same p q same [] = refl
find_same p q same (x ∷ xs) = (λ i. cond (same x i) (Some x) (find_same p q same xs i))

pub due_after : (row : DueRow) (m : ℕ) (rows : List DueRow) → IsRising due_cmp rows
    → kept_by (is_due m) (find (λ x. not (is_lt (past_row (due_cmp x row)))) rows) ≡ find (λ x. is_past row x && is_due m x) rows
due_after row m rows rising =
    ap (kept_by (is_due m)) (find_same (λ x. not (is_lt (past_row (due_cmp x row)))) (is_past row) (λ x. past (due_cmp x row)) rows)
    ∙ found_first (is_past row) (is_due m) (due_ends (is_past row) m) rows rising
