use Rattle.std.proofs.Common.{refl}
use Rattle.queue_rows.specs.Serial.{next_propagator_turn}
use Rattle.aq_run.proofs.Closing.{propagator_run}
use Rattle.aq_run.proofs.Taking.{takes_turned, passes_turned}
use Rattle.aq_run.proofs.rounds.propagator_turn.Goals as goal

pub returns-clause-turn : goal.returns-clause-turn
returns-clause-turn g c =
    takes_turned g.C.Clock.given g.C.Clock.plan 65 c.args.world.now c.turn.new.self c.turn.result c.turn.ensures.turn next_propagator_turn c.whole.result
    c.requires.clock refl c.whole.ensures.whole c.whole.ensures.broken c.whole.ensures.halted c.turn.ensures.halted c.turn.ensures.fine

pub returns-clause-passes : goal.returns-clause-passes
returns-clause-passes g c =
    passes_turned g.C.Clock.given g.C.Clock.plan 65 c.args.world.now c.turn.new.self c.turn.result c.turn.ensures.turn g.D.Disk.seen g.D.Disk.is_image g.D.Disk.calls g.D.Disk.faults
    (propagator_run c.args.world.now.held.world) c.turn.ensures.disks
