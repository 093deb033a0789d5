use Rattle.std.proofs.Common.{None, slice_index_or, ◌/◌, ◌%◌}
use Rattle.std.specs.HashMap.{get}
use Rattle.row_locks.specs.Entries.{is_same_slot}
use Rattle.row_locks.proofs.BlockLemmas.{ended}
use Rattle.row_locks.proofs.slots.SlotIndex.end.Goals as goal

pub returns-clause-holds : goal.returns-clause-holds
returns-clause-holds c = λ i s.
    ended (λ holds n. slice_index_or holds n None) (get is_same_slot c.args.self.now.blocks) (get is_same_slot c.remove.new.self) (c.args.id / 16, c.args.slot) (i / 16, s) (i % 16) (c.remove.ensures.updates.0 (i / 16, s))
    c.requires.empty
