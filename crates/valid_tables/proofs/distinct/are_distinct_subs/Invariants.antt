use Rattle.queue_rows.specs.Rows.{is_same_sub}
use Rattle.valid_tables.specs.Met.{has_pair}
use Rattle.valid_tables.proofs.Meeting.{Left}
use Rattle.valid_tables.proofs.distinct.are_distinct_subs.Given as goal

abbrev pub invariant-loop-sub : goal.invariant-loop-sub
invariant-loop-sub l = Left is_same_sub l.subs l.sub-iterator (λ r. has_pair l.met r.queue r.name)
