use Rattle.std.proofs.Common.{◌++◌, Some, sym, ap, ◌∙◌, subst}
use Rattle.row_tree.specs.Path.{ahead, HaveRows}
use Rattle.row_tree.proofs.Ahead.{one_more, goes_left}
use Rattle.row_tree.proofs.AtRoot.{root_row, root_rows}
use Rattle.row_tree.proofs.iter.Path.+follow.Goals as goal

pub invariant_of-self-2 : goal.invariant_of-self-2
invariant_of-self-2 g t c =
    let fork = c.deref-fork.result in
    subst HaveRows (sym c.push.ensures.items)
    (one_more c.self.inside.forks.items (Some fork) c.self.invariant (root_row c.tree.invariant.0 c.in-Some.is c.deref-fork.ensures))

pub returns : goal.returns
returns g t c some =
    let fork = c.deref-fork.result in
    goes_left c.args.tree.now c.args.self.now c.follow.new.self c.self.inside.forks.items fork c.self.view_is (root_rows c.tree.view_is c.in-Some.is c.deref-fork.ensures)
    (λ left. c.follow.ensures left ∙ ap (λ forks. fork.now.left ++ ahead forks) c.push.ensures.items) some
