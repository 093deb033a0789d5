use Rattle.std.proofs.Common.{◌≡◌, ◌++◌, map}
use Rattle.queue_rows.specs.Commits.{column_value}
use Rattle.sessions.proofs.places.column_values.Given as goal

abbrev pub invariant-loop-column : goal.invariant-loop-column
invariant-loop-column l = l.values.items ++ map (column_value l.priority l.enqueued l.committed) l.column-iterator ≡ map (column_value l.priority l.enqueued l.committed) l.sort
