use Rattle.std.proofs.Common.{◌≡◌, ◌+◌, ◌∷◌, Bool, false, true, is_lt, arith, ap, ◌∙◌}
use Rattle.std.specs.List.{prefix_len}
use Rattle.row_tree.proofs.AtRoot.{at_root}
use Rattle.row_tree.proofs.Splits.{split_left, split_right, prefix_left, prefix_right}
use Rattle.row_tree.proofs.tree.Tree.rank.Goals as goal

pub forks-preserved-then-is_lt : goal.forks-preserved-then-is_lt
forks-preserved-then-is_lt g c =
    let f = at_root c.tree.view_is c.in-Some.is c.deref-fork.ensures c.in-Some-row.is in
    let o = c.deref-fork.result.now in
    let p : g.row.T.Denot → Bool = λ row. is_lt (g.B.Bound.standing c.args.bound.now row) in
    let passes : p c.in-Some-row.row ≡ true = cc in
    let split = rw f.is at c.forks.invariant.0 in
    let e = prefix_right p o.left c.in-Some-row.row o.right passes split in
    let whole = c.forks.invariant.1 ∙ ap (λ xs. c.forks.past + prefix_len p xs) f.is in
    (split_right p o.left c.in-Some-row.row o.right split, omega (arith, whole, e, c.len.ensures), omega (arith, f.count, c.len.ensures, c.forks.invariant.2))

pub forks-preserved : goal.forks-preserved
forks-preserved g c =
    let f = at_root c.tree.view_is c.in-Some.is c.deref-fork.ensures c.in-Some-row.is in
    let o = c.deref-fork.result.now in
    let p : g.row.T.Denot → Bool = λ row. is_lt (g.B.Bound.standing c.args.bound.now row) in
    let fails : p c.in-Some-row.row ≡ false = cc in
    let e = prefix_left p o.left c.in-Some-row.row o.right fails in
    let whole = c.forks.invariant.1 ∙ ap (λ xs. c.forks.past + prefix_len p xs) f.is in
    (split_left p o.left (c.in-Some-row.row ∷ o.right) (rw f.is at c.forks.invariant.0), whole ∙ ap (λ n. c.forks.past + n) e, omega (arith, f.count, c.forks.invariant.2))
