-- The rows are those of the messages that were gone over.
use Rattle.std.proofs.Common.{◌≡◌, ◌++◌, List}
use Rattle.queue_rows.specs.declared.rows.MsgRow.{MsgRow}
use Rattle.message_index.specs.DueKept.{IfDue, keeps_in}
use Rattle.message_index.proofs.due_cache.DueCache.of.Given as goal

abbrev pub invariant-loop-message : goal.invariant-loop-message
invariant-loop-message l = record {
  done : List MsgRow;
  all : done ++ l.message-iterator ≡ l.messages;
  due : IfDue (keeps_in l.due.keeps) done l.due.slots;
}
