use Rattle.std.proofs.Common.{refl}
use Rattle.durable_state.proofs.Growing.{adds_none}
use Rattle.aq_world.proofs.Goings.{as_failed}
use Rattle.aq_world.proofs.turns.turn.Goals as goal

pub returns-then-has_failed-clause-disks : goal.returns-then-has_failed-clause-disks
returns-then-has_failed-clause-disks g c =
    as_failed _ _ _ refl c.take_reading.ensures.disks (adds_none _ _ c.take_reading.ensures.entries) (c.take_reading.ensures.stays (c.has_failed.ensures.failed c.if-has_failed.true))

pub returns-then-has_failed-clause-stops : goal.returns-then-has_failed-clause-stops
returns-then-has_failed-clause-stops g c failed = (refl, c.take_reading.ensures.entries)

pub returns-clause-stops : goal.returns-clause-stops
returns-clause-stops g c failed = absurd (c.has_failed.ensures.fine c.if-has_failed.false failed)
