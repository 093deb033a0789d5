use Rattle.aq_world.specs.Held.{HasFailed}
use Rattle.aq_run.specs.Passing.{Passes}
use Rattle.aq_run.proofs.Running.{IsAfter, IsOnTime, left_of}
use Rattle.aq_run.proofs.rounds.run.Given as goal

abbrev pub invariant-loop-world : goal.invariant-loop-world
invariant-loop-world g l = record {
  after : IsAfter l.fn.world.held.world l.world.held.world;
  time : IsOnTime l.world.held.world;
  passes : Passes g.D.Disk.seen g.D.Disk.is_image g.D.Disk.calls g.D.Disk.faults g.C.Clock.given g.C.Clock.plan l.fn.world l.world;
  fine : HasFailed l.world.held → HasFailed l.fn.world.held;
}

abbrev pub decreases-loop-world : goal.decreases-loop-world
decreases-loop-world g l = left_of l.world.held.world
