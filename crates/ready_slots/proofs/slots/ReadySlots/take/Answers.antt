use Rattle.std.proofs.Common.{List, option_copied, subst}
use Rattle.sort_index.specs.declared.group.Group.{Group}
use Rattle.ready_slots.specs.Taking.{TakesRow}
use Rattle.ready_slots.proofs.Taking.{take_told}
use Rattle.ready_slots.proofs.slots.ReadySlots.take.Goals as goal

pub returns : goal.returns
returns c =
    let queue = c.args.queue.now in
    let consumer = option_copied c.args.consumer in
    let place = c.args.place.now in
    let after = c.take-slot.new.self.groups in
    subst (λ (gs : List Group). TakesRow queue consumer place c.args.stamp gs after) c.self.view_is
    (take_told queue consumer place c.args.stamp c.self.inside.index.groups after c.take-slot.ensures.rows)
