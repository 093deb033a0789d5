-- The count so far, and what is still to be counted, is all.
use Rattle.std.proofs.Common.{◌≡◌, ◌+◌}
use Rattle.std.specs.List.{fold}
use Rattle.run_summary.specs.Summary.{removals_in, removals}
use Rattle.run_summary.proofs.counts.count_removed.Given as goal

abbrev pub invariant-loop-entry : goal.invariant-loop-entry
invariant-loop-entry l = fold (λ a x. a + removals_in x) l.count l.entry-iterator ≡ removals l.entries
