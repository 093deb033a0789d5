use Rattle.std.proofs.Common.{◌≡◌, ◌+◌, ◌∷◌, [], Bool, false, true, is_lt, not, slice_get, ap, sym, ◌∙◌, arith}
use Rattle.std.specs.List.{find, prefix_len}
use Rattle.std.specs.Option.{option_map_or}
use Rattle.std.specs.Ordering.{is_eq}
use Rattle.row_tree.specs.Rows.{rows}
use Rattle.row_tree.proofs.AtRoot.{at_root}
use Rattle.row_tree.proofs.Places.{found}
use Rattle.row_tree.proofs.Seeking.{asked_of, on_the_right, or_the_root}
use Rattle.row_tree.proofs.Splits.{split_left, split_right, prefix_left, prefix_right}
use Rattle.row_tree.proofs.tree.Tree.seat.Goals as goal

pub forks-preserved-then-is_lt : goal.forks-preserved-then-is_lt
forks-preserved-then-is_lt g c =
    let f = at_root c.tree.view_is c.in-Some.is c.deref-fork.ensures c.in-Some-row.is in
    let o = c.deref-fork.result.now in
    let k = c.in-Some-row.row in
    let p : g.row.T.Denot → Bool = λ row. is_lt (g.B.Bound.standing c.args.bound.now row) in
    let q : g.row.T.Denot → Bool = λ row. not (p row) in
    let at : g.row.T.Denot → Bool = λ row. is_eq (g.B.Bound.standing c.args.bound.now row) in
    let passes : p k ≡ true = cc in
    let split = rw f.is at c.forks.invariant.0 in
    let e = prefix_right p o.left k o.right passes split in
    let whole = c.forks.invariant.1 ∙ ap (λ xs. c.forks.past + prefix_len p xs) f.is in
    let there = c.forks.invariant.3 ∙ ap (λ xs. option_map_or at (find q xs) c.forks.is_there) f.is
    ∙ ap (λ x. option_map_or at x c.forks.is_there) (on_the_right p o.left k o.right passes split) in
    (split_right p o.left k o.right split, omega (arith, whole, e, c.len.ensures), omega (arith, f.count, c.len.ensures, c.forks.invariant.2), there)

pub forks-preserved : goal.forks-preserved
forks-preserved g c =
    let f = at_root c.tree.view_is c.in-Some.is c.deref-fork.ensures c.in-Some-row.is in
    let o = c.deref-fork.result.now in
    let k = c.in-Some-row.row in
    let p : g.row.T.Denot → Bool = λ row. is_lt (g.B.Bound.standing c.args.bound.now row) in
    let q : g.row.T.Denot → Bool = λ row. not (p row) in
    let at : g.row.T.Denot → Bool = λ row. is_eq (g.B.Bound.standing c.args.bound.now row) in
    let fails : p k ≡ false = cc in
    let own : at k ≡ c.is_eq-is_there.result = cc in
    let e = prefix_left p o.left k o.right fails in
    let whole = c.forks.invariant.1 ∙ ap (λ xs. c.forks.past + prefix_len p xs) f.is in
    let there = c.forks.invariant.3 ∙ ap (λ xs. option_map_or at (find q xs) c.forks.is_there) f.is
    ∙ ap (λ x. option_map_or at x c.forks.is_there) (or_the_root q o.left k o.right (ap not fails))
    ∙ asked_of at (find q o.left) k c.forks.is_there ∙ ap (λ b. option_map_or at (find q o.left) b) own in
    (split_left p o.left (k ∷ o.right) (rw f.is at c.forks.invariant.0), whole ∙ ap (λ n. c.forks.past + n) e, omega (arith, f.count, c.forks.invariant.2), there)

pub returns-clause-at : goal.returns-clause-at
returns-clause-at g c =
    let p : g.row.T.Denot → Bool = λ row. is_lt (g.B.Bound.standing c.args.bound.now row) in
    let q : g.row.T.Denot → Bool = λ row. not (p row) in
    let at : g.row.T.Denot → Bool = λ row. is_eq (g.B.Bound.standing c.args.bound.now row) in
    let self = c.args.self.now in
    let empty : c.forks.tree.now ≡ [] = sym c.tree.view_is ∙ ap rows c.in_default.is in
    let none = ap (prefix_len p) empty in
    let here : prefix_len p self ≡ c.forks.past = omega (arith, c.forks.invariant.1, none) in
    sym (c.forks.invariant.3 ∙ ap (λ xs. option_map_or at (find q xs) c.forks.is_there) empty)
    ∙ ap (λ x. option_map_or at x false) (sym (found p self)) ∙ ap (λ n. option_map_or at (slice_get self n) false) here
