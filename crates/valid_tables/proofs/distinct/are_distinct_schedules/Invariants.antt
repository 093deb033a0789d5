use Rattle.queue_rows.specs.Rows.{is_same_schedule}
use Rattle.valid_tables.specs.Met.{has_pair}
use Rattle.valid_tables.proofs.Meeting.{Left}
use Rattle.valid_tables.proofs.distinct.are_distinct_schedules.Given as goal

abbrev pub invariant-loop-schedule : goal.invariant-loop-schedule
invariant-loop-schedule l = Left is_same_schedule l.schedules l.schedule-iterator (λ r. has_pair l.met r.queue r.to)
