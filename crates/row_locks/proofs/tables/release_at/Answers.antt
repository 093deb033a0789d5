use Rattle.std.proofs.Common.{None}
use Rattle.row_locks.specs.Slots.{hold_of}
use Rattle.row_locks.proofs.TableLemmas.{held_there, set_at, index_taken}
use Rattle.row_locks.proofs.tables.release_at.Goals as goal

pub release_entry_at-requires-clause-there : goal.release_entry_at-requires-clause-there
release_entry_at-requires-clause-there c = (held_there c.args.tables.now.items (hold_of c.args.slots.now) c.args.id c.args.slot c.args.hold c.requires.index c.requires.held).0

pub release_entry_at-requires-clause-within : goal.release_entry_at-requires-clause-within
release_entry_at-requires-clause-within c = (held_there c.args.tables.now.items (hold_of c.args.slots.now) c.args.id c.args.slot c.args.hold c.requires.index c.requires.held).1

pub returns-clause-index : goal.returns-clause-index
returns-clause-index c =
    let tables = c.args.tables.now.items in
    let there = held_there tables (hold_of c.args.slots.now) c.args.id c.args.slot c.args.hold c.requires.index c.requires.held in
    rw c.release_entry_at.ensures (
    index_taken tables _ (hold_of c.args.slots.now) (hold_of c.take.new.self) c.args.id c.args.slot c.args.hold c.requires.index c.requires.held
    (set_at tables c.args.hold.session c.args.hold.at None there.0 there.1) c.take.ensures.holds
    )
