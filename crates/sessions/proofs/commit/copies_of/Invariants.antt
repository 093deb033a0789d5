use Rattle.std.proofs.Common.{◌≡◌, ◌++◌}
use Rattle.sessions.proofs.commit.copies_of.Given as goal

abbrev pub invariant-loop-queue : goal.invariant-loop-queue
invariant-loop-queue l = l.copies ++ l.queue-iterator ≡ l.queues
