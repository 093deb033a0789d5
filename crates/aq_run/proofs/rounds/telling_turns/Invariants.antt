use Rattle.queue_rows.specs.Turns.{telling_turn}
use Rattle.aq_run.proofs.Taking.{HasTaken}
use Rattle.aq_run.proofs.rounds.telling_turns.Given as goal

abbrev pub invariant-loop-session : goal.invariant-loop-session
invariant-loop-session g l =
    HasTaken g.D.Disk.seen g.D.Disk.is_image g.D.Disk.calls g.D.Disk.faults g.C.Clock.given g.C.Clock.plan telling_turn l.session l.fn.world l.world
