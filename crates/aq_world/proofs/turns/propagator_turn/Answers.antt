use Rattle.std.proofs.Common.{sym, ap, ◌∙◌}
use Rattle.queue_rows.specs.Turns.{any_live}
use Rattle.aq_world.proofs.Turning.{at_err, propagator_read_front, valid_begun}
use Rattle.aq_world.proofs.Goings.{as_memory, as_on, as_ok, as_passed, quiet_ok, quiet_on, quiet_same}
use Rattle.aq_world.proofs.turns.propagator_turn.Goals as goal

pub returns-in_err-was_due-clause-front : goal.returns-in_err-was_due-clause-front
returns-in_err-was_due-clause-front g c =
    at_err c.from_residual.result (propagator_read_front c.args.reading c.args.state.now.world c.begin.new.state.world (ap any_live (sym c.run.ensures) ∙ sym c.any_live.ensures ∙ c.if-not-any_live.false) c.in_err-was_due.ensures.err)

pub propagate-requires : goal.propagate-requires
propagate-requires g c = valid_begun c.args.reading c.args.state.now.world c.begin.new.state.world c.in_ok-was_due.ensures.ok c.requires.sound

pub returns-then-not-any_live-clause-disks : goal.returns-then-not-any_live-clause-disks
returns-then-not-any_live-clause-disks g c = as_ok _ _ _ (quiet_same _)

pub returns-in_err-was_due-clause-disks : goal.returns-in_err-was_due-clause-disks
returns-in_err-was_due-clause-disks g c = as_memory c.from_residual.result _ _ c.from_residual.ensures.1 c.begin.ensures.disks

pub returns-in_err-was_sent-clause-disks : goal.returns-in_err-was_sent-clause-disks
returns-in_err-was_sent-clause-disks g c = as_on _ _ _ _ c.begin.ensures.disks (as_passed c.propagate.result _ c.from_residual-in_err-was_sent.result _ _ c.in_err-was_sent.was c.from_residual-in_err-was_sent.ensures.1 c.propagate.ensures.disks)

pub returns-then-was_sent-clause-disks : goal.returns-then-was_sent-clause-disks
returns-then-was_sent-clause-disks g c = as_ok _ _ _ (quiet_on _ _ _ c.begin.ensures.disks (quiet_ok c.propagate.result _ _ _ c.in_ok-was_sent.was c.propagate.ensures.disks))

pub returns-else-was_sent-clause-disks : goal.returns-else-was_sent-clause-disks
returns-else-was_sent-clause-disks g c = as_ok _ _ _ (quiet_on _ _ _ c.begin.ensures.disks (quiet_ok c.propagate.result _ _ _ c.in_ok-was_sent.was c.propagate.ensures.disks))
