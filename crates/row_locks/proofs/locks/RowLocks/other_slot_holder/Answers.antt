use Rattle.row_locks.proofs.SessionLemmas.{if_none_map, no_other_slot}
use Rattle.row_locks.proofs.locks.RowLocks.other_slot_holder.Goals as goal

pub returns-clause-none : goal.returns-clause-none
returns-clause-none c =
    let holder = c.slot_holder-holder in
    if_none_map c.other_than.result (no_other_slot c.args.self.now c.args.session c.args.mark.now holder.result holder.ensures.once holder.ensures.some holder.ensures.none)
    c.other_than.ensures.none
