use Rattle.std.proofs.Common.{◌∙◌, ap, suc, sym, subst}
use Rattle.queue_rows.specs.Turns.{caught_up}
use Rattle.run_laws.specs.ValidRun.{IsValidWorld}
use Rattle.aq_world.proofs.Turning.{at_err, none_drained, drained_more, drained_front, drains_so, less_room}
use Rattle.aq_world.proofs.Goings.{as_ok, as_on, as_passed, passed_halted, quiet_ok, quiet_on, quiet_same}
use Rattle.aq_world.proofs.turns.drain.Goals as goal

pub loop-more-init : goal.loop-more-init
loop-more-init g c = (0, none_drained _, quiet_same _)

pub drain_once-requires : goal.drain_once-requires
drain_once-requires g c = let n = c.loop-more.invariant in subst IsValidWorld (sym n.1) (c.requires n.0)

pub loop-more-preserved : goal.loop-more-preserved
loop-more-preserved g c = let n = c.loop-more.invariant in (suc n.0, drained_more n.0 _ _ _ n.1 c.in_ok-more.ensures.ok, quiet_on _ _ _ n.2 (quiet_ok c.drain_once.result _ _ _ c.in_ok-more.was c.drain_once.ensures.disks))

pub loop-more-smaller : goal.loop-more-smaller
loop-more-smaller g c = less_room _ _ _ c.in_ok-more.ensures.more c.if-not-more.false c.in_ok-more.ensures.ok c.in_ok-more.ensures.room

pub returns-in_err-more-clause-front : goal.returns-in_err-more-clause-front
returns-in_err-more-clause-front g c = let n = c.loop-more.invariant in at_err c.from_residual.result (suc n.0, drained_front n.0 c.args.state.now.world c.loop-more.state.world c.drain_once.new.state.world n.1 c.in_err-more.ensures.front)

pub returns-then-not-more-clause-ok : goal.returns-then-not-more-clause-ok
returns-then-not-more-clause-ok g c = let n = c.loop-more.invariant in drains_so n.0 _ _ _ _ n.1 c.in_ok-more.ensures.more c.if-not-more.true c.in_ok-more.ensures.ok

pub returns-in_err-more-clause-disks : goal.returns-in_err-more-clause-disks
returns-in_err-more-clause-disks g c = let n = c.loop-more.invariant in as_on c.from_residual.result _ _ _ n.2 (as_passed c.drain_once.result _ c.from_residual.result _ _ c.in_err-more.was c.from_residual.ensures.1 c.drain_once.ensures.disks)

pub returns-then-not-more-clause-disks : goal.returns-then-not-more-clause-disks
returns-then-not-more-clause-disks g c = let n = c.loop-more.invariant in as_ok _ _ _ (quiet_on _ _ _ n.2 (quiet_ok c.drain_once.result _ _ _ c.in_ok-more.was c.drain_once.ensures.disks))

pub returns-in_err-more-clause-due : goal.returns-in_err-more-clause-due
returns-in_err-more-clause-due g c halted fine =
    let n = c.loop-more.invariant in
    let before = passed_halted c.drain_once.result _ c.from_residual.result c.in_err-more.was c.from_residual.ensures.1 halted in
    let due = c.drain_once.ensures.due before (λ failed. fine (n.2.fine failed)) in
    (n.0, due.0 ∙ ap (caught_up 66) n.1, due.1)
