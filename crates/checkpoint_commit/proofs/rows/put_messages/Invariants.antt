use Rattle.std.proofs.Common.{◌≡◌, ◌++◌, map}
use Rattle.queue_rows.specs.declared.change.Change.TheVariants as changes
use Rattle.checkpoint_commit.proofs.rows.put_messages.Given as goal

-- what is put and what puts the messages that are left are the whole
abbrev pub invariant-loop-message : goal.invariant-loop-message
invariant-loop-message l = l.changes.items ++ map changes.Enqueued l.message-iterator ≡ l.fn.changes.items ++ map changes.Enqueued l.messages
