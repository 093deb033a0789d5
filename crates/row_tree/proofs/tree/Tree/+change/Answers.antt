use Rattle.std.proofs.Common.{◌≡◌, ◌<◌, ◌-◌, ◌++◌, List, Option, IfSome, length, slice_get, subst, sym, ap, ◌∙◌, arith}
use Rattle.std.specs.Option.{option_to_list}
use Rattle.row_tree.specs.Edits.{edit_at}
use Rattle.row_tree.specs.Rows.{rows}
use Rattle.row_tree.specs.declared.tree.Fork.{Fork}
use Rattle.row_tree.specs.declared.tree.Tree.TheInside.{Inside}
use Rattle.row_tree.proofs.AtRoot.{root_row, root_rows}
use Rattle.row_tree.proofs.Edited.{edit_left, edit_right, edit_root}
use Rattle.row_tree.proofs.Seats.{side_left, side_right, side_root}
use Rattle.row_tree.proofs.tree.Tree.+change.Goals as goal
use Rattle.row_tree.proofs.tree.Tree.+change.Goals.{then-at-before, else-at-before+then-at-before-2, else-at-before+else-at-before-2}

pub returns-clause-rows : goal.returns-clause-rows
returns-clause-rows g t c =
    let now = c.args.self.now in
    let f = g.C.Change.changed c.args.change in
    elim c.if-at-before.branch [
      | then-at-before w ↦
          let n = w.deref_mut.result.now in
          let is = sym (root_rows c.self.view_is c.in-Some.is w.deref_mut.ensures.value) in
          let first : c.len-before.result ≡ length n.left = c.len-before.ensures ∙ ap (λ (k : Fork g.row.T.Denot). length k.left) (c.deref.ensures ∙ sym w.deref_mut.ensures.value) in
          let below : c.args.at < length n.left = omega (arith, first, w.if-at-before.true) in
          ap (λ (s : Inside g.row.T.Denot). rows s.root) w.self-inside-is
          ∙ ap (λ (l : List g.row.T.Denot). l ++ (option_to_list n.row ++ n.right)) w.change.ensures.rows
          ∙ edit_left now n.left n.right n.row c.args.at f is below
      | else-at-before+then-at-before-2 w ↦
          let n = w.deref_mut-then-at-before-2.result.now in
          let here = w.deref_mut-then-at-before-2.ensures.value in
          let is = sym (root_rows c.self.view_is c.in-Some.is here) in
          let first : c.len-before.result ≡ length n.left = c.len-before.ensures ∙ ap (λ (k : Fork g.row.T.Denot). length k.left) (c.deref.ensures ∙ sym here) in
          let past : length n.left < c.args.at = omega (arith, first, w.if-at-before-2.true) in
          ap (λ (s : Inside g.row.T.Denot). rows s.root) w.self-inside-is
          ∙ ap (λ (r : List g.row.T.Denot). n.left ++ (option_to_list n.row ++ r)) (w.change-then-at-before-2.ensures.rows ∙ ap (λ m. edit_at n.right (c.args.at - m - 1) f) first)
          ∙ edit_right now n.left n.right n.row c.args.at f (root_row c.self.invariant.0 c.in-Some.is here) is past
      | else-at-before+else-at-before-2 w ↦
          let n = w.deref_mut-else-at-before-2.result.now in
          let here = w.deref_mut-else-at-before-2.ensures.value in
          let is = sym (root_rows c.self.view_is c.in-Some.is here) in
          let first : c.len-before.result ≡ length n.left = c.len-before.ensures ∙ ap (λ (k : Fork g.row.T.Denot). length k.left) (c.deref.ensures ∙ sym here) in
          let at : c.args.at ≡ length n.left = omega (arith, first, w.if-at-before.false, w.if-at-before-2.false) in
          ap (λ (s : Inside g.row.T.Denot). rows s.root) w.self-inside-is
          ∙ ap (λ (k : Fork g.row.T.Denot). k.left ++ (option_to_list k.row ++ k.right)) w.change-else-at-before-2.ensures.row
          ∙ edit_root now n.left n.right n.row c.args.at f (root_row c.self.invariant.0 c.in-Some.is here) is at
    ]

pub returns-clause-told : goal.returns-clause-told
returns-clause-told g t c =
    let now = c.args.self.now in
    let told = c.if-at-before.result in
    let P : Option g.row.T.Denot → g.row.C-Told.Denot → Type 0 = λ o r. IfSome o (λ row. r ≡ g.C.Change.tells c.args.change row) in
    elim c.if-at-before.branch [
      | then-at-before w ↦
          let n = w.deref_mut.result.now in
          let is = sym (root_rows c.self.view_is c.in-Some.is w.deref_mut.ensures.value) in
          let first : c.len-before.result ≡ length n.left = c.len-before.ensures ∙ ap (λ (k : Fork g.row.T.Denot). length k.left) (c.deref.ensures ∙ sym w.deref_mut.ensures.value) in
          let below : c.args.at < length n.left = omega (arith, first, w.if-at-before.true) in
          subst (λ o. P o told) (sym (side_left now n.left n.right n.row c.args.at is below)) (subst (P (slice_get n.left c.args.at)) (sym w.result-is) w.change.ensures.told)
      | else-at-before+then-at-before-2 w ↦
          let n = w.deref_mut-then-at-before-2.result.now in
          let here = w.deref_mut-then-at-before-2.ensures.value in
          let is = sym (root_rows c.self.view_is c.in-Some.is here) in
          let first : c.len-before.result ≡ length n.left = c.len-before.ensures ∙ ap (λ (k : Fork g.row.T.Denot). length k.left) (c.deref.ensures ∙ sym here) in
          let past : length n.left < c.args.at = omega (arith, first, w.if-at-before-2.true) in
          let side = side_right now n.left n.right n.row c.args.at (root_row c.self.invariant.0 c.in-Some.is here) is past
          ∙ ap (λ m. slice_get n.right (c.args.at - m - 1)) (sym first) in
          subst (λ o. P o told) (sym side) (subst (P (slice_get n.right (c.args.at - c.len-before.result - 1))) (sym w.result-is) w.change-then-at-before-2.ensures.told)
      | else-at-before+else-at-before-2 w ↦
          let n = w.deref_mut-else-at-before-2.result.now in
          let here = w.deref_mut-else-at-before-2.ensures.value in
          let is = sym (root_rows c.self.view_is c.in-Some.is here) in
          let first : c.len-before.result ≡ length n.left = c.len-before.ensures ∙ ap (λ (k : Fork g.row.T.Denot). length k.left) (c.deref.ensures ∙ sym here) in
          let at : c.args.at ≡ length n.left = omega (arith, first, w.if-at-before.false, w.if-at-before-2.false) in
          subst (λ o. P o told) (sym (side_root now n.left n.right n.row c.args.at (root_row c.self.invariant.0 c.in-Some.is here) is at))
          (subst (P n.row) (sym w.result-is) w.change-else-at-before-2.ensures.told)
    ]
