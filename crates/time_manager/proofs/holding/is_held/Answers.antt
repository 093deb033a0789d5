use Rattle.std.proofs.Common.{◌∙◌}
use Rattle.queue_rows.specs.Due.{group_in}
use Rattle.time_manager.proofs.Held.{held_where}
use Rattle.time_manager.proofs.holding.is_held.Goals as goal

pub returns : goal.returns
returns c =
    let w = c.args.watching.now in
    let m = c.args.message.now in
    c.is_some.ensures
    ∙ held_where w.db w.locks.now m.id c.args.slot (group_in w.tables.now m c.args.slot) c.holder.result c.holder.ensures.some c.holder.ensures.free_slot c.holder.ensures.free_group
