use Rattle.std.proofs.Common.{◌≡◌, ◌++◌, map}
use Rattle.queue_rows.specs.Commits.{column_value}
use Rattle.propagation.proofs.copy.column_values.Given as goal

abbrev pub invariant-loop-column : goal.invariant-loop-column
invariant-loop-column l = l.values.items ++ map (column_value l.priority l.moment l.moment) l.column-iterator ≡ map (column_value l.priority l.moment l.moment) l.sort
