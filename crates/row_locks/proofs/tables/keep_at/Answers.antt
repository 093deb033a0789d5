use Rattle.row_locks.specs.Slots.{hold_of}
use Rattle.row_locks.proofs.TableLemmas.{held_there, index_kept}
use Rattle.row_locks.proofs.tables.keep_at.Goals as goal

pub keep_entry_at-requires-clause-there : goal.keep_entry_at-requires-clause-there
keep_entry_at-requires-clause-there c = (held_there c.args.tables.now.items (hold_of c.args.slots.now) c.args.mark.now.id c.args.mark.now.slot c.args.hold c.requires.index c.requires.held).0

pub keep_entry_at-requires-clause-within : goal.keep_entry_at-requires-clause-within
keep_entry_at-requires-clause-within c = (held_there c.args.tables.now.items (hold_of c.args.slots.now) c.args.mark.now.id c.args.mark.now.slot c.args.hold c.requires.index c.requires.held).1

pub returns-clause-index : goal.returns-clause-index
returns-clause-index c =
    let tables = c.args.tables.now.items in
    rw c.keep_entry_at.ensures (
    index_kept tables (hold_of c.args.slots.now) (hold_of c.change.new.self) c.args.mark.now c.args.hold c.requires.index c.requires.held c.change.ensures.holds
    )
