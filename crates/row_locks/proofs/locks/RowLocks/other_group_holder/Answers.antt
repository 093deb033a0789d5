use Rattle.row_locks.proofs.SessionLemmas.{if_none_map, no_other_group}
use Rattle.row_locks.proofs.locks.RowLocks.other_group_holder.Goals as goal

pub returns-clause-none : goal.returns-clause-none
returns-clause-none c =
    let holder = c.holder_of_group-holder in
    if_none_map c.other_than.result (no_other_group c.args.self.now c.args.session c.args.mark.now holder.result holder.ensures.once holder.ensures.some holder.ensures.none)
    c.other_than.ensures.none
