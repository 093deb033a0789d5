use Rattle.queue_rows.specs.Rows.{is_same_table}
use Rattle.valid_tables.specs.Met.{has_name}
use Rattle.valid_tables.proofs.Meeting.{Left}
use Rattle.valid_tables.proofs.distinct.are_distinct_tables.Given as goal

abbrev pub invariant-loop-table : goal.invariant-loop-table
invariant-loop-table l = Left is_same_table l.tables l.table-iterator (λ r. has_name l.met r.name)
