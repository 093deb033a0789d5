use Rattle.std.proofs.Common.{None, slice_index_or, ◌/◌, ◌%◌, rules}
use Rattle.std.specs.HashMap.{get}
use Rattle.row_locks.specs.Entries.{is_same_slot}
use Rattle.row_locks.proofs.BlockLemmas.{begun}
use Rattle.row_locks.proofs.slots.SlotIndex.begin.Goals as goal

pub returns-clause-holds : goal.returns-clause-holds
returns-clause-holds c = λ i s.
    begun (λ holds n. slice_index_or holds n None) (get is_same_slot c.args.self.now.blocks) (get is_same_slot c.insert.new.self) (c.args.id / 16, c.args.slot) (i / 16, s) (i % 16) _ (c.in-Ok.ensures.updates.0 (i / 16, s)) c.requires.absent (search rules)
