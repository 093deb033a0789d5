use Rattle.std.specs.BTreeSet.{contains}
use Rattle.std.specs.Ordering.{nat_cmp}
use Rattle.queue_rows.specs.Valid.{is_same_message}
use Rattle.valid_tables.proofs.Meeting.{Left}
use Rattle.valid_tables.proofs.distinct.are_distinct_messages.Given as goal

abbrev pub invariant-loop-message : goal.invariant-loop-message
invariant-loop-message l = Left is_same_message l.messages l.message-iterator (λ r. contains nat_cmp l.met r.id)
