use Rattle.std.proofs.Common.{◌≡◌, ◌/◌, Some, rules}
use Rattle.std.specs.HashMap.{get}
use Rattle.row_locks.specs.Entries.{is_same_slot}
use Rattle.row_locks.specs.Groups.{hold_at}
use Rattle.row_locks.proofs.BlockLemmas.{written}
use Rattle.row_locks.proofs.holds.GroupHolds.write.Goals as goal

pub returns-in-Some-clause-holds : goal.returns-in-Some-clause-holds
returns-in-Some-clause-holds c = λ n h.
    let is : get is_same_slot c.args.self.now.blocks (c.args.key.number / 16, c.args.key.names) ≡ Some c.in-Some.block.now = search rules in
    let wrote = c.get_mut.follows.holds c.set_hold.new.block in
    let told = (wrote.3 c.requires.there).0 (n / 16, h) in
    written hold_at (get is_same_slot c.args.self.now.blocks) (get is_same_slot (c.get_mut.follows.lender c.set_hold.new.block)) c.args.key.number c.args.key.names n h c.in-Some.block.now c.set_hold.new.block c.args.hold is told
    c.set_hold.ensures
