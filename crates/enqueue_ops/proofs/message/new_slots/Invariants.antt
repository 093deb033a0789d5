use Rattle.std.proofs.Common.{◌≡◌, ◌++◌, map}
use Rattle.queue_rows.specs.Enqueueing.{new_slot}
use Rattle.enqueue_ops.proofs.message.new_slots.Given as goal

abbrev pub invariant-loop-agent : goal.invariant-loop-agent
invariant-loop-agent l = l.slots ++ map (new_slot l.ask l.moment) l.agent-iterator ≡ map (new_slot l.ask l.moment) l.agents
