-- The index has the rows of the messages that were gone over.
use Rattle.std.proofs.Common.{◌≡◌, ◌++◌, List, length, take}
use Rattle.queue_rows.specs.declared.rows.MsgRow.{MsgRow}
use Rattle.message_index.specs.Stamped.{IfRemote, entries_of}
use Rattle.message_index.proofs.remote_cache.RemoteCache.of.Given as goal

abbrev pub invariant-loop-message : goal.invariant-loop-message
invariant-loop-message l = record {
  done : List MsgRow;
  all : done ++ l.message-iterator ≡ l.messages;
  count : l.at ≡ length done;
  remote : IfRemote (entries_of (take l.at l.index.stamps) done) l.remote.slots;
}
