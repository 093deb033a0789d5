use Rattle.std.proofs.Common.{[]}
use Rattle.aq_world.proofs.Mounting.{unopened_so}
use Rattle.aq_world.proofs.world.World.mount.Goals as goal

pub invariant_of-result : goal.invariant_of-result
invariant_of-result g c = record { readings = []; told = c.requires.fresh; running = c.in-Ok.ensures.runs }

pub returns-in-Err-clause-unopened : goal.returns-in-Err-clause-unopened
returns-in-Err-clause-unopened g c =
    unopened_so g.D.Disk _ _ c.args.home c.args.away _ _ _ _ c.with_clock.ensures.cause c.with_clock.ensures.home c.with_clock.ensures.away c.in-Err.ensures.unopened
