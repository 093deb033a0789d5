use Rattle.std.proofs.Common.{◌≤◌, length, option_copied, refl, sym, ap, ◌∙◌, arith}
use Rattle.named_list.proofs.Walks.{goes_on, is_found, is_over, is_past}
use Rattle.named_list.proofs.list.found_by_walk.Goals as goal

pub loop-at-init : goal.loop-at-init
loop-at-init g c = refl

pub returns-in_err-item : goal.returns-in_err-item
returns-in_err-item g c =
    ap option_copied c.from_residual.ensures ∙ sym (is_over (g.S.Sought.is c.args.sought.now) c.args.items.now c.loop-at.at (sym c.in_err-item.ensures)) ∙ c.loop-at.invariant

pub returns-then-is : goal.returns-then-is
returns-then-is g c =
    let passes = sym c.if-is.ensures in
    sym (is_found (g.S.Sought.is c.args.sought.now) c.args.items.now c.loop-at.at c.in_ok-item.item.now (sym c.in_ok-item.ensures) passes) ∙ c.loop-at.invariant

pub loop-at-preserved : goal.loop-at-preserved
loop-at-preserved g c =
    let fails = sym c.if-is.ensures in
    goes_on (g.S.Sought.is c.args.sought.now) c.args.items.now c.loop-at.at c.in_ok-item.item.now (sym c.in_ok-item.ensures) fails ∙ c.loop-at.invariant

pub returns : goal.returns
returns g c =
    let past : length c.args.items.now ≤ c.loop-at.at = omega (arith, c.len-at-end.ensures, c.loop-at-test.false, c.loop-at.auto.at-end) in
    sym (is_past (g.S.Sought.is c.args.sought.now) c.args.items.now c.loop-at.at past) ∙ c.loop-at.invariant
