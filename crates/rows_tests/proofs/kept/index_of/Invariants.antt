-- The index has the rows of the messages that were gone over.
use Rattle.std.proofs.Common.{◌≡◌, ◌++◌, List, length}
use Rattle.queue_rows.specs.declared.rows.MsgRow.{MsgRow}
use Rattle.message_choice.specs.Indexed.{IndexesReady}
use Rattle.rows_tests.specs.Kept.{numbered_from}
use Rattle.rows_tests.proofs.kept.index_of.Given as goal

abbrev pub invariant-loop-message : goal.invariant-loop-message
invariant-loop-message l = record {
  done : List MsgRow;
  all : done ++ l.message-iterator ≡ l.messages;
  stamps : l.stamp ≡ length done;
  indexed : IndexesReady (numbered_from 0 done) l.ready;
}
