use Rattle.std.proofs.Common.{◌≡◌, ◌++◌, ◌+◌, ◌<◌, ◌^◌, length, All}
use Rattle.queue_rows.specs.Commits.{changes_from}
use Rattle.sessions.specs.Numbers.{IsLowest, IsPendable}
use Rattle.sessions.specs.Running.{with_queues}
use Rattle.sessions.proofs.commit.changes_from.Given as goal

abbrev pub invariant-loop-pending : goal.invariant-loop-pending
invariant-loop-pending l = record {
  changes : l.changes ++ changes_from (with_queues l.tables l.queues) l.stamp.group l.stamp.moment l.pending-iterator ≡ changes_from l.tables l.stamp.group l.stamp.moment l.fn.pending;
  count : length l.changes + length l.pending-iterator < 2 ^ 61;
  lowest : All (IsLowest (2 ^ 62 + length l.changes)) l.queues;
  numbers : All IsPendable l.pending-iterator;
}
