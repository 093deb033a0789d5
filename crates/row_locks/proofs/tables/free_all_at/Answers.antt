use Rattle.std.proofs.Common.{None, slice_set, cond, ◌∙◌, ap}
use Rattle.row_locks.specs.Entries.{no_entries, present}
use Rattle.row_locks.specs.Slots.{hold_of}
use Rattle.slot_marks.specs.Marks.{has_slot}
use Rattle.row_locks.proofs.TableLemmas.{emptied_at, kept_beside_it, index_emptied}
use Rattle.row_locks.proofs.tables.free_all_at.Goals as goal

pub returns-clause-index : goal.returns-clause-index
returns-clause-index c =
    let tables = c.args.tables.now.items in
    rw c.empty_at.ensures (
    index_emptied tables (slice_set tables c.args.at no_entries) (hold_of c.args.slots.now) (hold_of c.take_present.new.self) c.args.at c.requires.index
    (emptied_at tables c.args.at c.requires.there) (kept_beside_it tables c.args.at no_entries)
    (λ id slot. c.take_present.ensures.holds id slot ∙ ap (λ entries. cond (has_slot id slot (present entries)) None (hold_of c.args.slots.now id slot)) c.entries_at.ensures)
    )
