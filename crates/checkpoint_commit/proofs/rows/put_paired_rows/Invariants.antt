use Rattle.std.proofs.Common.{◌≡◌, ◌++◌, map}
use Rattle.checkpoint_commit.proofs.rows.put_paired_rows.Given as goal

-- what is put and what puts the rows that are left are the whole
abbrev pub invariant-loop-row : goal.invariant-loop-row
invariant-loop-row g l = l.changes.items ++ map g.R.Row.put l.row-iterator ≡ l.fn.changes.items ++ map g.R.Row.put l.rows
