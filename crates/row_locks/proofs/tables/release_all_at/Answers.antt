use Rattle.std.proofs.Common.{None, slice_set, cond, ◌∙◌, ap}
use Rattle.row_locks.specs.Entries.{no_entries}
use Rattle.row_locks.specs.Slots.{hold_of}
use Rattle.slot_marks.specs.Marks.{has_slot}
use Rattle.row_locks.proofs.TableLemmas.{emptied_at, kept_beside_it, index_emptied}
use Rattle.row_locks.proofs.tables.release_all_at.Goals as goal

pub returns-clause-index : goal.returns-clause-index
returns-clause-index c =
    let tables = c.args.tables.now.items in
    rw c.take_all_at-marks.ensures.none (
    index_emptied tables (slice_set tables c.args.at no_entries) (hold_of c.args.slots.now) (hold_of c.take_all.new.self) c.args.at c.requires.index
    (emptied_at tables c.args.at c.requires.there) (kept_beside_it tables c.args.at no_entries)
    (λ id slot. c.take_all.ensures.holds id slot ∙ ap (λ marks. cond (has_slot id slot marks) None (hold_of c.args.slots.now id slot)) (c.as_slice.ensures.value ∙ c.take_all_at-marks.ensures.all))
    )
