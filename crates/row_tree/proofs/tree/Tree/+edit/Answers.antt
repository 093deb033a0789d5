use Rattle.std.proofs.Common.{◌≡◌, ◌<◌, ◌-◌, ◌++◌, List, length, sym, ap, ◌∙◌, arith}
use Rattle.std.specs.Option.{option_to_list}
use Rattle.row_tree.specs.Edits.{edit_at}
use Rattle.row_tree.specs.Rows.{rows}
use Rattle.row_tree.specs.declared.tree.Fork.{Fork}
use Rattle.row_tree.specs.declared.tree.Tree.TheInside.{Inside}
use Rattle.row_tree.proofs.AtRoot.{root_row, root_rows}
use Rattle.row_tree.proofs.Edited.{edit_left, edit_right, edit_root}
use Rattle.row_tree.proofs.tree.Tree.+edit.Goals as goal
use Rattle.row_tree.proofs.tree.Tree.+edit.Goals.{then-at-before, else-at-before+then-at-before-2, else-at-before+else-at-before-2}

pub returns : goal.returns
returns g t c =
    let now = c.args.self.now in
    let f = g.E.Edit.edited c.args.edit in
    elim c.if-at-before.branch [
      | then-at-before w ↦
          let n = w.deref_mut.result.now in
          let is = sym (root_rows c.self.view_is c.in-Some.is w.deref_mut.ensures.value) in
          let first : c.len-before.result ≡ length n.left = c.len-before.ensures ∙ ap (λ (k : Fork g.row.T.Denot). length k.left) (c.deref.ensures ∙ sym w.deref_mut.ensures.value) in
          let below : c.args.at < length n.left = omega (arith, first, w.if-at-before.true) in
          ap (λ (s : Inside g.row.T.Denot). rows s.root) w.self-inside-is
          ∙ ap (λ (l : List g.row.T.Denot). l ++ (option_to_list n.row ++ n.right)) w.edit.ensures
          ∙ edit_left now n.left n.right n.row c.args.at f is below
      | else-at-before+then-at-before-2 w ↦
          let n = w.deref_mut-then-at-before-2.result.now in
          let here = w.deref_mut-then-at-before-2.ensures.value in
          let is = sym (root_rows c.self.view_is c.in-Some.is here) in
          let first : c.len-before.result ≡ length n.left = c.len-before.ensures ∙ ap (λ (k : Fork g.row.T.Denot). length k.left) (c.deref.ensures ∙ sym here) in
          let past : length n.left < c.args.at = omega (arith, first, w.if-at-before-2.true) in
          ap (λ (s : Inside g.row.T.Denot). rows s.root) w.self-inside-is
          ∙ ap (λ (r : List g.row.T.Denot). n.left ++ (option_to_list n.row ++ r)) (w.edit-then-at-before-2.ensures ∙ ap (λ m. edit_at n.right (c.args.at - m - 1) f) first)
          ∙ edit_right now n.left n.right n.row c.args.at f (root_row c.self.invariant.0 c.in-Some.is here) is past
      | else-at-before+else-at-before-2 w ↦
          let n = w.deref_mut-else-at-before-2.result.now in
          let here = w.deref_mut-else-at-before-2.ensures.value in
          let is = sym (root_rows c.self.view_is c.in-Some.is here) in
          let first : c.len-before.result ≡ length n.left = c.len-before.ensures ∙ ap (λ (k : Fork g.row.T.Denot). length k.left) (c.deref.ensures ∙ sym here) in
          let at : c.args.at ≡ length n.left = omega (arith, first, w.if-at-before.false, w.if-at-before-2.false) in
          ap (λ (s : Inside g.row.T.Denot). rows s.root) w.self-inside-is
          ∙ ap (λ (k : Fork g.row.T.Denot). k.left ++ (option_to_list k.row ++ k.right)) w.edit-else-at-before-2.ensures
          ∙ edit_root now n.left n.right n.row c.args.at f (root_row c.self.invariant.0 c.in-Some.is here) is at
    ]
