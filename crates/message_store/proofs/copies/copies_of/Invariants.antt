use Rattle.std.proofs.Common.{◌≡◌, ◌++◌}
use Rattle.message_store.proofs.copies.copies_of.Given as goal

abbrev pub invariant-loop-change : goal.invariant-loop-change
invariant-loop-change l = l.copies ++ l.change-iterator ≡ l.changes
