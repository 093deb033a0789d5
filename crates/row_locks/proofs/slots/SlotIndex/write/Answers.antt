use Rattle.std.proofs.Common.{◌≡◌, ◌<◌, ◌/◌, ◌%◌, is_some, Some, None, slice_index_or, length, ◌∙◌, ap, arith, rules}
use Rattle.std.specs.HashMap.{get}
use Rattle.row_locks.specs.Entries.{is_same_slot}
use Rattle.row_locks.proofs.BlockLemmas.{written, place_set}
use Rattle.row_locks.proofs.slots.SlotIndex.write.Goals as goal

pub returns-in-Some-clause-holds : goal.returns-in-Some-clause-holds
returns-in-Some-clause-holds c = λ _ i s.
    let is : get is_same_slot c.args.self.now.blocks (c.args.id / 16, c.args.slot) ≡ Some c.in-Some.holds.now = search rules in
    let fits : c.args.id % 16 < length c.in-Some.holds.now = omega (arith, c.set_cell.ensures.whole) in
    let wrote = c.get_mut.follows.holds c.set_cell.new.holds in
    let told = (wrote.3 (ap is_some is)).0 (i / 16, s) in
    let holds = c.in-Some.holds.now in
    written (λ holds n. slice_index_or holds n None) (get is_same_slot c.args.self.now.blocks) (get is_same_slot (c.get_mut.follows.lender c.set_cell.new.holds)) c.args.id c.args.slot i s holds c.set_cell.new.holds c.args.hold is told
    (λ n. ap (λ items. slice_index_or items n None) c.set_cell.ensures.set ∙ place_set holds (c.args.id % 16) n c.args.hold None fits)
