use Rattle.std.proofs.Common.{◌/◌, ◌%◌, ap}
use Rattle.row_locks.specs.Slots.{cell}
use Rattle.row_locks.proofs.slots.SlotIndex.reserve.Goals as goal

pub returns-clause-holds : goal.returns-clause-holds
returns-clause-holds c = λ id slot. ap (λ block. cell block (id % 16)) (c.reserve.ensures.entries.2 (id / 16, slot))
