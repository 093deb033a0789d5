-- The index has the rows of the messages that were gone over.
use Rattle.std.proofs.Common.{◌≡◌, ◌++◌, List, length}
use Rattle.queue_rows.specs.declared.rows.MsgRow.{MsgRow}
use Rattle.remote_slots.specs.Remote.{IndexesRemote}
use Rattle.rows_tests.specs.Kept.{numbered_from}
use Rattle.rows_tests.proofs.remote.index_of.Given as goal

abbrev pub invariant-loop-message : goal.invariant-loop-message
invariant-loop-message l = record {
  done : List MsgRow;
  all : done ++ l.message-iterator ≡ l.messages;
  stamps : l.stamp ≡ length done;
  indexed : IndexesRemote (numbered_from 0 done) l.remote;
}
