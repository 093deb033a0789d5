use Rattle.std.proofs.Common.{List, Some, subst}
use Rattle.sort_index.specs.declared.group.Group.{Group}
use Rattle.ready_slots.specs.Taking.{TakesRow}
use Rattle.ready_slots.proofs.Taking.{take_told}
use Rattle.remote_slots.proofs.slots.RemoteSlots.take.Goals as goal

pub returns : goal.returns
returns c =
    let queue = c.args.queue.now in
    let place = c.args.place.now in
    let after = c.take-slot.new.self.groups in
    subst (λ (gs : List Group). TakesRow queue (Some c.args.to.now) place c.args.stamp gs after) c.self.view_is
    (take_told queue (Some c.args.to.now) place c.args.stamp c.self.inside.index.groups after c.take-slot.ensures.rows)
