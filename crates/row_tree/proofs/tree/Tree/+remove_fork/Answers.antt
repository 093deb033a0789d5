use Rattle.std.proofs.Common.{◌≡◌, ◌<◌, ◌-◌, ◌++◌, Box, List, IsSome, subst, length, remove, slice_get, sym, ap, ◌∙◌, arith}
use Rattle.std.specs.Option.{option_to_list}
use Rattle.std.specs.declared.alloc.Global.{Global}
use Rattle.row_tree.specs.Rows.{rows}
use Rattle.row_tree.specs.declared.tree.Fork.{Fork}
use Rattle.row_tree.specs.declared.tree.Tree.TheInside.{Inside}
use Rattle.row_tree.proofs.AtRoot.{root_row, root_rows}
use Rattle.row_tree.proofs.Sides.{get_left, get_right, remove_left, remove_right, remove_root}
use Rattle.row_tree.proofs.tree.Tree.+remove_fork.Goals as goal
use Rattle.row_tree.proofs.tree.Tree.+remove_fork.Goals.{then-at-before, else-at-before+then-at-before-2}

pub returns-clause-row : goal.returns-clause-row
returns-clause-row g t c =
    let now = c.args.self.now in
    elim c.if-at-before.branch [
      | then-at-before w ↦
          let n = w.deref_mut.result.now in
          let is = sym (root_rows c.self.view_is c.in-Some.is w.deref_mut.ensures.value) in
          let same = ap (λ (b : Box (Fork g.row.T.Denot) Global). b.value.row) (sym w.removed-is) in
          get_left now n.left n.right n.row c.args.at c.if-at-before.removed.value.row (subst IsSome same w.remove_fork-removed.ensures.some) is (w.remove_fork-removed.ensures.row ∙ same)
      | else-at-before+then-at-before-2 w ↦
          let n = w.deref_mut-then-at-before-2.result.now in
          let here = w.deref_mut-then-at-before-2.ensures.value in
          let is = sym (root_rows c.self.view_is c.in-Some.is here) in
          let first : c.len-before.result ≡ length n.left = c.len-before.ensures ∙ ap (λ (k : Fork g.row.T.Denot). length k.left) (c.deref.ensures ∙ sym here) in
          let past : length n.left < c.args.at = omega (arith, first, w.if-at-before-2.true) in
          let there = ap (λ m. slice_get n.right (c.args.at - m - 1)) (sym first) ∙ w.remove_fork.ensures.row ∙ ap (λ (b : Box (Fork g.row.T.Denot) Global). b.value.row) (sym w.removed-is) in
          get_right now n.left n.right n.row c.args.at c.if-at-before.removed.value.row (root_row c.self.invariant.0 c.in-Some.is here) is past there
    ]

pub returns-clause-rest : goal.returns-clause-rest
returns-clause-rest g t c =
    let now = c.args.self.now in
    elim c.if-at-before.branch [
      | then-at-before w ↦
          let n = w.deref_mut.result.now in
          let is = sym (root_rows c.self.view_is c.in-Some.is w.deref_mut.ensures.value) in
          let first : c.len-before.result ≡ length n.left = c.len-before.ensures ∙ ap (λ (k : Fork g.row.T.Denot). length k.left) (c.deref.ensures ∙ sym w.deref_mut.ensures.value) in
          let below : c.args.at < length n.left = omega (arith, first, w.if-at-before.true) in
          c.balance.ensures ∙ ap (λ (s : Inside g.row.T.Denot). rows s.root) w.self-inside-is
          ∙ ap (λ (l : List g.row.T.Denot). l ++ (option_to_list n.row ++ n.right)) w.remove_fork-removed.ensures.rest
          ∙ remove_left now n.left n.right n.row c.args.at is below
      | else-at-before+then-at-before-2 w ↦
          let n = w.deref_mut-then-at-before-2.result.now in
          let here = w.deref_mut-then-at-before-2.ensures.value in
          let is = sym (root_rows c.self.view_is c.in-Some.is here) in
          let first : c.len-before.result ≡ length n.left = c.len-before.ensures ∙ ap (λ (k : Fork g.row.T.Denot). length k.left) (c.deref.ensures ∙ sym here) in
          let past : length n.left < c.args.at = omega (arith, first, w.if-at-before-2.true) in
          c.balance.ensures ∙ ap (λ (s : Inside g.row.T.Denot). rows s.root) w.self-inside-is
          ∙ ap (λ (r : List g.row.T.Denot). n.left ++ (option_to_list n.row ++ r)) (w.remove_fork.ensures.rest ∙ ap (λ m. remove n.right (c.args.at - m - 1)) first)
          ∙ remove_right now n.left n.right n.row c.args.at (root_row c.self.invariant.0 c.in-Some.is here) is past
    ]

pub returns-else-at-before-2-clause-rest : goal.returns-else-at-before-2-clause-rest
returns-else-at-before-2-clause-rest g t c =
    let n = c.deref_mut-else-at-before-2.result.now in
    let same : c.in-Some-take.fork ≡ c.in-Some.fork = cc (c.in-Some-take.is, c.take.ensures.value) in
    let there : n ≡ c.in-Some.fork.value = c.deref_mut-else-at-before-2.ensures.value ∙ ap (λ (b : Box (Fork g.row.T.Denot) Global). b.value) same in
    let is = sym (root_rows c.self.view_is c.in-Some.is there) in
    let some = root_row c.self.invariant.0 c.in-Some.is there in
    let right = c.replace-right.ensures.value ∙ ap (λ (k : Fork g.row.T.Denot). k.right) c.deref_mut-else-at-before-2-2.ensures.value in
    let first : c.len-before.result ≡ length n.left = c.len-before.ensures ∙ ap (λ (k : Fork g.row.T.Denot). length k.left) (c.deref.ensures ∙ sym there) in
    let here : c.args.at ≡ length n.left = omega (arith, first, c.if-at-before.false, c.if-at-before-2.false) in
    c.glue-else-at-before-2.view_is ∙ c.glue.ensures ∙ ap (λ (l : List g.row.T.Denot). l ++ c.replace-right.result) c.replace-left.ensures.value ∙ ap (λ (r : List g.row.T.Denot). n.left ++ r) right
    ∙ remove_root c.args.self.now n.left n.right n.row c.args.at some is here
