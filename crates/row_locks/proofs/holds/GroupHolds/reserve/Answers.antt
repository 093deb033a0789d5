use Rattle.std.proofs.Common.{◌/◌, ◌%◌, ap}
use Rattle.row_locks.specs.Groups.{block_hold}
use Rattle.row_locks.proofs.holds.GroupHolds.reserve.Goals as goal

pub returns-clause-holds : goal.returns-clause-holds
returns-clause-holds c = λ id slot. ap (λ block. block_hold block (id % 16)) (c.reserve.ensures.entries.2 (id / 16, slot))
