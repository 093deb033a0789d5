use Rattle.std.proofs.Common.{List, Some, subst, ap, ◌∙◌}
use Rattle.sort_index.specs.declared.group.Group.{Group}
use Rattle.ready_slots.specs.Putting.{PutsRow}
use Rattle.ready_slots.proofs.Putting.{copies_free, copies_put}
use Rattle.remote_slots.proofs.slots.RemoteSlots.put_row.Goals as goal

pub put-requires-clause-free : goal.put-requires-clause-free
put-requires-clause-free c =
    copies_free c.args.message.now (Some c.args.to.now) c.args.stamp c.in_ok-queue.queue (Some c.in_ok-name.name) c.in_ok-place.place c.in_ok-queue.ensures (ap Some c.in_ok-name.ensures) c.in_ok-place.ensures
    c.reserve.new.self.groups c.take-slot.new.self.groups c.take-slot.ensures.rows

pub returns : goal.returns
returns c =
    let after = c.put.new.self.groups in
    subst (λ (gs : List Group). PutsRow c.args.message.now (Some c.args.to.now) c.args.stamp gs after) (c.reserve.ensures.rows ∙ c.self.view_is)
    (copies_put c.args.message.now (Some c.args.to.now) c.args.stamp c.in_ok-queue.queue (Some c.in_ok-name.name) c.in_ok-place.place c.in_ok-queue.ensures (ap Some c.in_ok-name.ensures) c.in_ok-place.ensures
    c.reserve.new.self.groups c.take-slot.new.self.groups c.take-slot.ensures.rows after c.put.ensures.rows)
