use Rattle.std.proofs.Common.{◌≡◌, ◌<◌, Option, Some, Bor, Bool, true, false, length, option_copied, slice_get, refl, sym, ap, ◌∙◌, subst, arith, of_calls}
use Rattle.std.specs.Fn.{CalledAt}
use Rattle.std.proofs.lemmas.Fn.{called_at}
use Rattle.std.proofs.lemmas.List.Edits.{length-remove}
use Rattle.row_tree.proofs.Going.{is_there}
use Rattle.row_tree.proofs.Retained.{Retains, begins, one_stays, one_goes}
use Rattle.row_tree.proofs.tree.Tree.retain.Goals as goal

pub loop-at-init : goal.loop-at-init
loop-at-init g c = (omega arith, c.requires, omega arith, begins (CalledAt g.F.FnMut) c.args.passes c.args.self.now)

pub unreachable-requires : goal.unreachable-requires
unreachable-requires g c =
    is_there c.loop-at.self c.loop-at.at (omega (arith, c.len.ensures)) (sym c.get.ensures ∙ ap (λ (o : Option (Bor g.row.T.Denot)). option_copied o) c.in_default.is)

pub loop-at-preserved-then-passes : goal.loop-at-preserved-then-passes
loop-at-preserved-then-passes g c =
    let at = c.loop-at in
    let R = CalledAt g.F.FnMut in
    let x = c.in-Some.row.now in
    let some : slice_get at.self at.at ≡ Some x = sym c.get.ensures ∙ ap (λ (o : Option (Bor g.row.T.Denot)). option_copied o) c.in-Some.is in
    let call : R at.passes x true c.passes.new.self = subst (λ (b : Bool). R at.passes x b c.passes.new.self) c.if-passes.true (called_at g.F.FnMut c.passes.ensures refl) in
    (omega (arith, c.len.ensures), search of_calls, at.invariant.2, one_stays R c.args.passes at.passes c.passes.new.self c.args.self.now at.self at.at x at.invariant.3 some call)

pub loop-at-preserved : goal.loop-at-preserved
loop-at-preserved g c =
    let at = c.loop-at in
    let R = CalledAt g.F.FnMut in
    let x = c.in-Some.row.now in
    let rest = c.remove-removed.ensures.rest in
    let some : slice_get at.self at.at ≡ Some x = sym c.get.ensures ∙ ap (λ (o : Option (Bor g.row.T.Denot)). option_copied o) c.in-Some.is in
    let call : R at.passes x false c.passes.new.self = subst (λ (b : Bool). R at.passes x b c.passes.new.self) c.if-passes.false (called_at g.F.FnMut c.passes.ensures refl) in
    let goes = one_goes R c.args.passes at.passes c.passes.new.self c.args.self.now at.self at.at x at.invariant.3 some call in
    let within : at.at < length at.self = omega (arith, c.len.ensures) in
    let long = length-remove at.self at.at within in
    let kept = ap length rest in
    let most = at.invariant.2 in
    (omega arith, search of_calls, omega arith, subst (λ ys. Retains R c.args.passes c.args.self.now c.passes.new.self ys at.at) (sym rest) goes)
