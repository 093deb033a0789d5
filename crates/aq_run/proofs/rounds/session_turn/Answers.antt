use Rattle.std.proofs.Common.{◌<◌, arith}
use Rattle.queue_rows.specs.Serial.{next_session_turn}
use Rattle.aq_run.proofs.Closing.{turned_session, session_run}
use Rattle.aq_run.proofs.Taking.{takes_turned, passes_turned}
use Rattle.aq_run.proofs.rounds.session_turn.Goals as goal

pub returns-clause-turn : goal.returns-clause-turn
returns-clause-turn g c =
    let lt : c.args.session < 64 = omega (arith, c.requires.session, c.requires.few) in
    takes_turned g.C.Clock.given g.C.Clock.plan c.args.session c.args.world.now c.turn.new.self c.turn.result c.turn.ensures.turn (next_session_turn c.args.session) c.whole.result
    c.requires.clock (turned_session c.args.session c.args.world.now.held.world lt) c.whole.ensures.whole c.whole.ensures.broken c.whole.ensures.halted c.turn.ensures.halted c.turn.ensures.fine

pub returns-clause-passes : goal.returns-clause-passes
returns-clause-passes g c =
    let lt : c.args.session < 64 = omega (arith, c.requires.session, c.requires.few) in
    passes_turned g.C.Clock.given g.C.Clock.plan c.args.session c.args.world.now c.turn.new.self c.turn.result c.turn.ensures.turn g.D.Disk.seen g.D.Disk.is_image g.D.Disk.calls g.D.Disk.faults
    (session_run c.args.session c.args.world.now.held.world lt) c.turn.ensures.disks
