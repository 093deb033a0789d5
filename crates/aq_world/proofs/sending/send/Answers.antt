use Rattle.aq_world.proofs.Goings.{quiet_by}
use Rattle.aq_world.proofs.sending.send.Goals as goal

pub returns-in-Offer-clause-disks : goal.returns-in-Offer-clause-disks
returns-in-Offer-clause-disks g c = quiet_by _ _ c.offer.ensures.disks c.offer.ensures.adds c.offer.ensures.fine

pub returns-in-Arrive-clause-disks : goal.returns-in-Arrive-clause-disks
returns-in-Arrive-clause-disks g c = quiet_by _ _ c.arrive.ensures.disks c.arrive.ensures.adds c.arrive.ensures.fine

pub returns-in-Confirm-clause-disks : goal.returns-in-Confirm-clause-disks
returns-in-Confirm-clause-disks g c = quiet_by _ _ c.confirm.ensures.disks c.confirm.ensures.adds c.confirm.ensures.fine
