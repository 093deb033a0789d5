-- The count so far, and what is still to be counted, is all.
use Rattle.std.proofs.Common.{◌≡◌, ◌+◌}
use Rattle.std.specs.Prelude.{count_by, if◌then◌else◌}
use Rattle.std.specs.List.{fold}
use Rattle.run_summary.specs.Summary.{is_removal}
use Rattle.run_summary.proofs.counts.count_done.Given as goal

abbrev pub invariant-loop-change : goal.invariant-loop-change
invariant-loop-change l = fold (λ a x. a + (if is_removal x then 1 else 0)) l.count l.change-iterator ≡ count_by is_removal l.changes
