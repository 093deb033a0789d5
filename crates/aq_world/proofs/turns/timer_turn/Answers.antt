use Rattle.aq_world.proofs.Goings.{as_memory, as_ok, quiet_same}
use Rattle.aq_world.proofs.turns.timer_turn.Goals as goal

pub returns-then-not-any_live-clause-disks : goal.returns-then-not-any_live-clause-disks
returns-then-not-any_live-clause-disks g c = as_ok _ _ _ (quiet_same _)

pub returns-in_err-was_due-clause-disks : goal.returns-in_err-was_due-clause-disks
returns-in_err-was_due-clause-disks g c = as_memory c.from_residual.result _ _ c.from_residual.ensures.1 c.begin.ensures.disks

pub returns-then-was_due-clause-disks : goal.returns-then-was_due-clause-disks
returns-then-was_due-clause-disks g c = as_ok _ _ _ c.begin.ensures.disks

pub returns-else-was_due-clause-disks : goal.returns-else-was_due-clause-disks
returns-else-was_due-clause-disks g c = as_ok _ _ _ c.begin.ensures.disks
