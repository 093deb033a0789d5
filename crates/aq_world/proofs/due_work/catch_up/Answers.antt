use Rattle.aq_world.proofs.Goings.{quiet_by, quiet_same}
use Rattle.aq_world.proofs.due_work.catch_up.Goals as goal

pub returns-in_err-work-clause-disks : goal.returns-in_err-work-clause-disks
returns-in_err-work-clause-disks g c = quiet_same _

pub returns-in_default-clause-disks : goal.returns-in_default-clause-disks
returns-in_default-clause-disks g c = quiet_same _

pub returns-in_err-time-clause-disks : goal.returns-in_err-time-clause-disks
returns-in_err-time-clause-disks g c = quiet_by _ _ c.time.ensures.disks c.time.ensures.adds c.time.ensures.fine

pub returns-clause-disks : goal.returns-clause-disks
returns-clause-disks g c = quiet_by _ _ c.time.ensures.disks c.time.ensures.adds c.time.ensures.fine
