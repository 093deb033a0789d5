use Rattle.std.proofs.Common.{◌≡◌, ◌++◌, List}
use Rattle.queue_rows.specs.declared.change.Change.{Change}
use Rattle.exception_queues.specs.Outcomes.{AreOutcomes}
use Rattle.exception_queues.proofs.outcomes.outcomes_of.Given as goal

abbrev pub invariant-loop-change : goal.invariant-loop-change
invariant-loop-change g l = (done : List Change) × (done ++ l.change-iterator ≡ l.changes) × AreOutcomes (g.T.MessageTables.tables l.tables) done l.outcomes
