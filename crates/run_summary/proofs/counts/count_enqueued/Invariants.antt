-- The count so far, and what is still to be counted, is all.
use Rattle.std.proofs.Common.{◌≡◌, ◌+◌}
use Rattle.std.specs.Prelude.{if◌then◌else◌}
use Rattle.std.specs.List.{fold}
use Rattle.run_summary.specs.Summary.{is_enqueued, enqueues}
use Rattle.run_summary.proofs.counts.count_enqueued.Given as goal

abbrev pub invariant-loop-entry : goal.invariant-loop-entry
invariant-loop-entry l = fold (λ a x. a + (if is_enqueued x.step then 1 else 0)) l.count l.entry-iterator ≡ enqueues l.entries
