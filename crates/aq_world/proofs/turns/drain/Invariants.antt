use Rattle.std.proofs.Common.{◌≡◌, ◌-◌, ◌^◌, ℕ, length}
use Rattle.queue_rows.specs.Turns.{drained}
use Rattle.aq_world.specs.Going.{GoesQuietly}
use Rattle.aq_world.proofs.turns.drain.Given as goal

abbrev pub invariant-loop-more : goal.invariant-loop-more
invariant-loop-more g l = (n : ℕ) × (l.state.world ≡ drained n l.fn.state.world) × GoesQuietly 66 g.D.Disk.seen g.D.Disk.is_image g.D.Disk.calls g.D.Disk.faults l.fn.state l.state

abbrev pub decreases-loop-more : goal.decreases-loop-more
decreases-loop-more g l = 2 ^ 64 - length l.state.world.entries
