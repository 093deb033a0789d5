use Rattle.std.proofs.Common.{◌/◌, ◌%◌}
use Rattle.std.specs.HashMap.{get}
use Rattle.row_locks.specs.Groups.{hold_at}
use Rattle.row_locks.specs.Entries.{is_same_slot}
use Rattle.row_locks.proofs.BlockLemmas.{ended}
use Rattle.row_locks.proofs.holds.GroupHolds.end_empty.Goals as goal

pub returns-then-is_empty_block-clause-holds : goal.returns-then-is_empty_block-clause-holds
returns-then-is_empty_block-clause-holds c = λ n h.
    ended hold_at (get is_same_slot c.args.self.now.blocks) (get is_same_slot c.remove.new.self) (c.args.key.number / 16, c.args.key.names) (n / 16, h) (n % 16) (c.remove.ensures.updates.0 (n / 16, h))
    (c.is_empty_block.ensures c.if-is_empty_block.true)
