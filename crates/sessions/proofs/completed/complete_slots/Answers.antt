use Rattle.std.proofs.Common.{arith, ◌-◌}
use Rattle.queue_rows.specs.Commits.{slot_at_commit}
use Rattle.sessions.proofs.Each.{step_down}
use Rattle.sessions.proofs.completed.complete_slots.Goals as goal

pub loop-at-preserved : goal.loop-at-preserved
loop-at-preserved c = step_down (slot_at_commit c.args.moment) c.loop-at.at (c.loop-at.at - 1) c.loop-at.slots c.complete_slot_at.new.slots _ (omega (arith, c.loop-at-test.true)) c.complete_slot_at.ensures c.loop-at.invariant
