use Rattle.std.proofs.Common.{◌≡◌, true, take}
use Rattle.queue_rows.specs.Distinct.{are_distinct}
use Rattle.queue_rows.specs.Valid.{is_same_recipient}
use Rattle.valid_tables.proofs.slots.are_distinct_recipients.Given as goal

abbrev pub invariant-loop-at : goal.invariant-loop-at
invariant-loop-at l = are_distinct is_same_recipient (take l.at l.message.slots) ≡ true
