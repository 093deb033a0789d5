use Rattle.std.proofs.Common.{◌∙◌, sym, subst}
use Rattle.aq_world.specs.Turning.{IsSendingDue}
use Rattle.aq_world.proofs.Turning.{valid_drained}
use Rattle.aq_world.proofs.Goings.{as_memory, as_on, as_ok, as_passed, never_halted, passed_halted, quiet_ok, quiet_on}
use Rattle.aq_world.proofs.turns.drain_once.Goals as goal

pub propagate-requires : goal.propagate-requires
propagate-requires g c = valid_drained c.args.state.now.world c.catch_up.new.state.world c.in_ok-catch_up.ensures.ok c.requires

pub returns-in_err-catch_up-clause-disks : goal.returns-in_err-catch_up-clause-disks
returns-in_err-catch_up-clause-disks g c = as_memory c.from_residual.result _ _ c.from_residual.ensures.1 c.catch_up.ensures.disks

pub returns-in_err-propagate-clause-disks : goal.returns-in_err-propagate-clause-disks
returns-in_err-propagate-clause-disks g c = as_on _ _ _ _ c.catch_up.ensures.disks (as_passed c.propagate.result _ c.from_residual-in_err-propagate.result _ _ c.in_err-propagate.was c.from_residual-in_err-propagate.ensures.1 c.propagate.ensures.disks)

pub returns-clause-disks : goal.returns-clause-disks
returns-clause-disks g c = as_ok _ _ _ (quiet_on _ _ _ c.catch_up.ensures.disks (quiet_ok c.propagate.result _ _ _ c.in_ok-propagate.was c.propagate.ensures.disks))

pub returns-in_err-catch_up-clause-due : goal.returns-in_err-catch_up-clause-due
returns-in_err-catch_up-clause-due g c halted = never_halted c.from_residual.result c.from_residual.ensures.1 halted

pub returns-in_err-propagate-clause-due : goal.returns-in_err-propagate-clause-due
returns-in_err-propagate-clause-due g c halted fine =
    let before = passed_halted c.propagate.result _ c.from_residual-in_err-propagate.result c.in_err-propagate.was c.from_residual-in_err-propagate.ensures.1 halted in
    let due = c.propagate.ensures.due before (λ failed. fine (c.catch_up.ensures.disks.fine failed)) in
    (due.1 ∙ c.in_ok-catch_up.ensures.ok, subst IsSendingDue (sym due.1) due.0)
