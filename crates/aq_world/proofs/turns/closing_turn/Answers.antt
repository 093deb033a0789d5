use Rattle.std.proofs.Common.{◌∙◌, inl, inr, refl, ap, subst}
use Rattle.queue_rows.specs.Turns.{caught_up, drained, is_durable, DrainsIn}
use Rattle.durable_state.proofs.Growing.{adds_none}
use Rattle.aq_world.proofs.Halting.{reading_part, reading_unclosed}
use Rattle.aq_world.proofs.Turning.{at_err, closed_so, unclosed_at_flush}
use Rattle.aq_world.proofs.Goings.{as_failed, as_on, as_ok, as_passed, passed_halted, quiet_by, quiet_ok, quiet_on}
use Rattle.aq_world.proofs.turns.closing_turn.Goals as goal

pub returns-then-has_failed-clause-err : goal.returns-then-has_failed-clause-err
returns-then-has_failed-clause-err g c = reading_part c.args.reading c.args.state.now.world c.read_clock.new.self.world c.read_clock.ensures.world

pub returns-then-has_failed-clause-front : goal.returns-then-has_failed-clause-front
returns-then-has_failed-clause-front g c = reading_unclosed c.args.reading c.args.state.now.world c.read_clock.new.self.world c.read_clock.ensures.world

pub returns-then-has_failed-clause-disks : goal.returns-then-has_failed-clause-disks
returns-then-has_failed-clause-disks g c = as_failed _ _ _ refl c.read_clock.ensures.disks (adds_none _ _ c.read_clock.ensures.entries) (c.has_failed.ensures.failed c.if-has_failed.true)

pub returns-then-has_failed-clause-stops : goal.returns-then-has_failed-clause-stops
returns-then-has_failed-clause-stops g c failed = (refl, c.read_clock.ensures.entries)

pub returns-in_err-drain-clause-stops : goal.returns-in_err-drain-clause-stops
returns-in_err-drain-clause-stops g c failed = absurd (c.has_failed.ensures.fine c.if-has_failed.false (c.read_clock.ensures.stays failed))

pub returns-in_err-flush-clause-stops : goal.returns-in_err-flush-clause-stops
returns-in_err-flush-clause-stops g c failed = absurd (c.has_failed.ensures.fine c.if-has_failed.false (c.read_clock.ensures.stays failed))

pub returns-clause-stops : goal.returns-clause-stops
returns-clause-stops g c failed = absurd (c.has_failed.ensures.fine c.if-has_failed.false (c.read_clock.ensures.stays failed))

pub returns-clause-ok : goal.returns-clause-ok
returns-clause-ok g c = closed_so c.args.reading c.args.state.now.world c.read_clock.new.self.world c.drain.new.state.world c.flush.new.self.world c.read_clock.ensures.world c.in_ok-drain.ensures.ok c.in_ok-flush.ensures.ok

pub returns-in_err-flush-clause-front : goal.returns-in_err-flush-clause-front
returns-in_err-flush-clause-front g c =
    at_err c.from_residual-in_err-flush.result (unclosed_at_flush c.args.reading c.args.state.now.world c.read_clock.new.self.world c.drain.new.state.world c.flush.new.self.world c.read_clock.ensures.world c.in_ok-drain.ensures.ok c.in_err-flush.ensures.err)

pub returns-in_err-drain-clause-disks : goal.returns-in_err-drain-clause-disks
returns-in_err-drain-clause-disks g c = as_on _ _ _ _ (quiet_by _ _ c.read_clock.ensures.disks (adds_none _ _ c.read_clock.ensures.entries) c.read_clock.ensures.fine) (as_passed c.drain.result _ c.from_residual.result _ _ c.in_err-drain.was c.from_residual.ensures.1 c.drain.ensures.disks)

pub returns-in_err-flush-clause-disks : goal.returns-in_err-flush-clause-disks
returns-in_err-flush-clause-disks g c = as_on _ _ _ _ (quiet_on _ _ _ (quiet_by _ _ c.read_clock.ensures.disks (adds_none _ _ c.read_clock.ensures.entries) c.read_clock.ensures.fine) (quiet_ok c.drain.result _ _ _ c.in_ok-drain.was c.drain.ensures.disks)) (as_failed c.from_residual-in_err-flush.result _ _ c.from_residual-in_err-flush.ensures.1 c.flush.ensures.disks c.flush.ensures.adds c.in_err-flush.ensures.halted)

pub returns-clause-disks : goal.returns-clause-disks
returns-clause-disks g c = as_ok _ _ _ (quiet_on _ _ _ (quiet_on _ _ _ (quiet_by _ _ c.read_clock.ensures.disks (adds_none _ _ c.read_clock.ensures.entries) c.read_clock.ensures.fine) (quiet_ok c.drain.result _ _ _ c.in_ok-drain.was c.drain.ensures.disks)) (quiet_by _ _ c.flush.ensures.disks c.flush.ensures.adds (λ failed. absurd (c.in_ok-flush.ensures.unfailed failed))))

pub returns-then-has_failed-clause-due : goal.returns-then-has_failed-clause-due
returns-then-has_failed-clause-due g c halted fine = absurd (fine (c.read_clock.ensures.fine (c.has_failed.ensures.failed c.if-has_failed.true)))

pub returns-in_err-drain-clause-due : goal.returns-in_err-drain-clause-due
returns-in_err-drain-clause-due g c halted fine =
    let before = passed_halted c.drain.result _ c.from_residual.result c.in_err-drain.was c.from_residual.ensures.1 halted in
    let due = c.drain.ensures.due before (λ failed. fine (c.read_clock.ensures.fine failed)) in
    (due.0, inl (due.1 ∙ ap (λ w. caught_up 66 (drained due.0 w)) c.read_clock.ensures.world, due.2))

pub returns-in_err-flush-clause-due : goal.returns-in_err-flush-clause-due
returns-in_err-flush-clause-due g c halted fine =
    let n = c.in_ok-drain.ensures.ok in
    let still = (quiet_ok c.drain.result _ _ _ c.in_ok-drain.was c.drain.ensures.disks).fine in
    let undurable = c.in_err-flush.ensures.due (λ failed. fine (c.read_clock.ensures.fine (still failed))) in
    (n.0, inr (subst (λ w. DrainsIn w n.0) c.read_clock.ensures.world n.1, c.in_err-flush.ensures.err ∙ n.2 ∙ ap (drained n.0) c.read_clock.ensures.world, ap is_durable c.in_err-flush.ensures.err ∙ undurable))
