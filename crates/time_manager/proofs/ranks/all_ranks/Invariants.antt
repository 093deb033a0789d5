-- The places so far, and those that are left, are all.
use Rattle.std.proofs.Common.{◌≡◌, ◌++◌, ◌-◌}
use Rattle.std.specs.List.{range_with_len}
use Rattle.time_manager.proofs.ranks.all_ranks.Given as goal

abbrev pub invariant-loop-rank : goal.invariant-loop-rank
invariant-loop-rank l = l.ranks.items ++ range_with_len l.rank (l.count - l.rank) ≡ range_with_len 0 l.count
