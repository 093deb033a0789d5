use Rattle.std.proofs.Common.{◌≡◌, ◌≤◌, ◌<◌, ◌-◌, ◌++◌, List, length, insert, sym, ap, ◌∙◌, arith}
use Rattle.std.specs.Option.{option_to_list}
use Rattle.row_tree.specs.Rows.{rows}
use Rattle.row_tree.specs.declared.tree.Fork.{Fork}
use Rattle.row_tree.specs.declared.tree.Tree.TheInside.{Inside}
use Rattle.row_tree.proofs.AtRoot.{root_row, root_rows}
use Rattle.row_tree.proofs.Sides.{insert_left, insert_right}
use Rattle.row_tree.proofs.tree.Tree.+insert_fork.Goals as goal
use Rattle.row_tree.proofs.tree.Tree.+insert_fork.Goals.{then-at-before, else-at-before}

pub returns-after-at-before-clause-rows : goal.returns-after-at-before-clause-rows
returns-after-at-before-clause-rows g t c row is-row =
    elim c.if-at-before.branch [
      | then-at-before w ↦
          let n = w.deref_mut.result.now in
          let is = sym (root_rows c.self.view_is c.in-Some.is w.deref_mut.ensures.value) in
          let same = ap (λ (f : Fork g.row.T.Denot). length f.left) (c.deref.ensures ∙ sym w.deref_mut.ensures.value) in
          let within : c.args.at ≤ length n.left = omega (arith, c.len-before.ensures, same, w.if-at-before.true) in
          c.balance.ensures ∙ ap (λ (s : Inside g.row.T.Denot). rows s.root) w.self-inside-is
          ∙ ap (λ (l : List g.row.T.Denot). l ++ (option_to_list n.row ++ n.right)) (w.insert_fork.ensures.rows row is-row)
          ∙ insert_left c.args.self.now n.left n.right n.row c.args.at row is within
      | else-at-before w ↦
          let n = w.deref_mut-else-at-before.result.now in
          let is = sym (root_rows c.self.view_is c.in-Some.is w.deref_mut-else-at-before.ensures.value) in
          let some = root_row c.self.invariant.0 c.in-Some.is w.deref_mut-else-at-before.ensures.value in
          let same = ap (λ (f : Fork g.row.T.Denot). length f.left) (c.deref.ensures ∙ sym w.deref_mut-else-at-before.ensures.value) in
          let first : c.len-before.result ≡ length n.left = c.len-before.ensures ∙ same in
          let past : length n.left < c.args.at = omega (arith, first, w.if-at-before.false) in
          c.balance.ensures ∙ ap (λ (s : Inside g.row.T.Denot). rows s.root) w.self-inside-is
          ∙ ap (λ (r : List g.row.T.Denot). n.left ++ (option_to_list n.row ++ r)) ((w.insert_fork-else-at-before.ensures.rows row is-row) ∙ ap (λ m. insert n.right (c.args.at - m - 1) row) first)
          ∙ insert_right c.args.self.now n.left n.right n.row c.args.at row some is past
    ]
