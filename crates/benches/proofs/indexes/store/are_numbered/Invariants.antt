-- The messages that were gone over have their positions as their numbers.
use Rattle.std.proofs.Common.{◌≡◌, ◌++◌, List, length}
use Rattle.queue_rows.specs.declared.rows.MsgRow.{MsgRow}
use Rattle.benches.specs.Kept.{AreNumbered}
use Rattle.benches.proofs.indexes.store.are_numbered.Given as goal

abbrev pub invariant-loop-message : goal.invariant-loop-message
invariant-loop-message l = record {
  done : List MsgRow;
  all : done ++ l.message-iterator ≡ l.messages;
  count : l.at ≡ length done;
  numbered : AreNumbered done;
}
