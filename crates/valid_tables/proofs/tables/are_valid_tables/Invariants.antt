use Rattle.std.proofs.Common.{◌≡◌}
use Rattle.std.specs.List.{list_all}
use Rattle.queue_rows.specs.Valid.{is_valid_table}
use Rattle.valid_tables.proofs.tables.are_valid_tables.Given as goal

abbrev pub invariant-loop-table : goal.invariant-loop-table
invariant-loop-table l = list_all (is_valid_table l.catalog) l.table-iterator ≡ list_all (is_valid_table l.catalog) l.catalog.tables
