use Rattle.std.proofs.Common.{◌≡◌}
use Rattle.std.specs.List.{list_all}
use Rattle.queue_rows.specs.Valid.{is_valid_sub}
use Rattle.valid_tables.proofs.subscribers.are_valid_subs.Given as goal

abbrev pub invariant-loop-sub : goal.invariant-loop-sub
invariant-loop-sub l = list_all (is_valid_sub l.catalog) l.sub-iterator ≡ list_all (is_valid_sub l.catalog) l.catalog.subs
