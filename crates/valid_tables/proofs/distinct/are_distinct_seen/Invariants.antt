use Rattle.std.specs.BTreeSet.{contains}
use Rattle.queue_rows.specs.Valid.{is_same_seen}
use Rattle.valid_tables.proofs.Meeting.{Left}
use Rattle.valid_tables.proofs.Keys.{number_pair_cmp}
use Rattle.valid_tables.proofs.distinct.are_distinct_seen.Given as goal

abbrev pub invariant-loop-row : goal.invariant-loop-row
invariant-loop-row l = Left is_same_seen l.seen l.row-iterator (λ r. contains number_pair_cmp l.met (r.id, r.slot))
