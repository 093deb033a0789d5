use Rattle.std.proofs.Common.{◌≡◌, [], All}
use Rattle.due_slots.specs.Rows.{HasFewSlots}
use Rattle.benches.specs.Kept.{rows_after}
use Rattle.benches.proofs.indexes.store.due_of.Given as goal

abbrev pub invariant-loop-message : goal.invariant-loop-message
invariant-loop-message l = record {
  rows : rows_after l.due.rows l.message-iterator ≡ rows_after [] l.messages;
  few : All HasFewSlots l.message-iterator;
}
