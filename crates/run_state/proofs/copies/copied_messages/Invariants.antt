use Rattle.std.proofs.Common.{◌≡◌, ◌++◌}
use Rattle.run_state.proofs.copies.copied_messages.Given as goal

abbrev pub invariant-loop-message : goal.invariant-loop-message
invariant-loop-message l = l.copies ++ l.message-iterator ≡ l.messages
