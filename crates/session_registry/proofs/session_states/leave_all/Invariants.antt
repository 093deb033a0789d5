use Rattle.std.proofs.Common.{◌≡◌}
use Rattle.std.specs.Prelude.{map}
use Rattle.session_registry.specs.Sessions.{session_of, left_by}
use Rattle.session_registry.proofs.session_states.leave_all.Given as goal

abbrev pub invariant-loop-queue : goal.invariant-loop-queue
invariant-loop-queue l = left_by l.db l.queue-iterator (map session_of l.states) ≡ left_by l.db l.queues (map session_of l.fn.states)
