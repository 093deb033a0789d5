use Rattle.std.proofs.Common.{◌≡◌, ◌∷◌, Bool, false, true, is_lt, not, option_copied, ap, ◌∙◌}
use Rattle.std.specs.List.{find}
use Rattle.std.specs.Option.{option_or}
use Rattle.row_tree.proofs.AtRoot.{at_root}
use Rattle.row_tree.proofs.Seeking.{on_the_right, or_the_root, passed_over}
use Rattle.row_tree.proofs.Splits.{split_left, split_right}
use Rattle.row_tree.proofs.tree.Tree.first_from.Goals as goal

pub forks-preserved-then-is_lt : goal.forks-preserved-then-is_lt
forks-preserved-then-is_lt g c =
    let f = at_root c.tree.view_is c.in-Some.is c.deref-fork.ensures c.in-Some-row.is in
    let o = c.deref-fork.result.now in
    let p : g.row.T.Denot → Bool = λ row. is_lt (g.B.Bound.standing c.args.bound.now row) in
    let found = option_copied c.forks.first in
    let passes : p c.in-Some-row.row ≡ true = cc in
    let split = rw f.is at c.forks.invariant.0 in
    let e = on_the_right p o.left c.in-Some-row.row o.right passes split in (
      split_right p o.left c.in-Some-row.row o.right split,
      c.forks.invariant.1 ∙ ap (λ xs. option_or (find (λ x. not (p x)) xs) found) f.is ∙ ap (λ n. option_or n found) e,
    )

pub forks-preserved : goal.forks-preserved
forks-preserved g c =
    let f = at_root c.tree.view_is c.in-Some.is c.deref-fork.ensures c.in-Some-row.is in
    let o = c.deref-fork.result.now in
    let p : g.row.T.Denot → Bool = λ row. is_lt (g.B.Bound.standing c.args.bound.now row) in
    let q : g.row.T.Denot → Bool = λ row. not (p row) in
    let found = option_copied c.forks.first in
    let fails : p c.in-Some-row.row ≡ false = cc in
    let e = or_the_root q o.left c.in-Some-row.row o.right (ap not fails) in (
      split_left p o.left (c.in-Some-row.row ∷ o.right) (rw f.is at c.forks.invariant.0),
      c.forks.invariant.1 ∙ ap (λ xs. option_or (find q xs) found) f.is ∙ ap (λ n. option_or n found) e ∙ passed_over (find q o.left) c.in-Some-row.row found,
    )
