-- The index has the rows of the messages that were gone over.
use Rattle.std.proofs.Common.{◌≡◌, ◌++◌, List, length, take}
use Rattle.queue_rows.specs.declared.rows.MsgRow.{MsgRow}
use Rattle.message_index.specs.Stamped.{IfReady, entries_of}
use Rattle.message_index.proofs.ready_cache.ReadyCache.of.Given as goal

abbrev pub invariant-loop-message : goal.invariant-loop-message
invariant-loop-message l = record {
  done : List MsgRow;
  all : done ++ l.message-iterator ≡ l.messages;
  count : l.at ≡ length done;
  ready : IfReady (entries_of (take l.at l.index.stamps) done) l.ready.slots;
}
