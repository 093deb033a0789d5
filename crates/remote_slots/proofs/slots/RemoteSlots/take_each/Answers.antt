use Rattle.std.proofs.Common.{Some, sym, ap, ◌∙◌}
use Rattle.ready_slots.specs.Taking.{row_at, taken_where, told}
use Rattle.remote_slots.specs.Putting.{is_any_for}
use Rattle.remote_slots.proofs.Putting.{takes_one}
use Rattle.remote_slots.proofs.slots.RemoteSlots.take_each.Goals as goal

pub loop-slot-preserved-in-Some-address : goal.loop-slot-preserved-in-Some-address
loop-slot-preserved-in-Some-address c =
    let m = c.args.message.now in
    let before = c.loop-slot.self in
    λ queue to.
    takes_one m c.args.stamp c.in-Some.slot.now c.next.new.self queue to c.in-Some-address.to before c.take.new.self c.in-Some-address.is c.take.ensures
    ∙ sym (ap (λ slots. taken_where (is_any_for m.queue queue to slots) (row_at c.args.stamp m) (told queue (Some to) before)) c.in-Some.ensures.steps)
    ∙ c.loop-slot.invariant queue to
