use Rattle.durable_state.proofs.Growing.{adds_none}
use Rattle.aq_world.proofs.Goings.{quiet_by, quiet_on}
use Rattle.aq_world.proofs.due_work.begin.Goals as goal

pub returns-clause-disks : goal.returns-clause-disks
returns-clause-disks g c = quiet_on _ _ _ (quiet_by _ _ c.read_clock.ensures.disks (adds_none _ _ c.read_clock.ensures.entries) c.read_clock.ensures.fine) c.catch_up.ensures.disks
