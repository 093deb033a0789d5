use Rattle.queue_rows.specs.Rows.{is_same_queue}
use Rattle.valid_tables.specs.Met.{has_name}
use Rattle.valid_tables.proofs.Meeting.{Left}
use Rattle.valid_tables.proofs.distinct.are_distinct_queues.Given as goal

abbrev pub invariant-loop-queue : goal.invariant-loop-queue
invariant-loop-queue l = Left is_same_queue l.queues l.queue-iterator (λ r. has_name l.met r.name)
