use Rattle.std.proofs.Common.{Some, sym, ap, ◌∙◌}
use Rattle.ready_slots.specs.Putting.{put_where}
use Rattle.ready_slots.specs.Taking.{row_at, told}
use Rattle.remote_slots.specs.Remote.{is_any_to}
use Rattle.remote_slots.proofs.Putting.{puts_one}
use Rattle.remote_slots.proofs.slots.RemoteSlots.put_each.Goals as goal

pub loop-slot-preserved-in-Continue-1 : goal.loop-slot-preserved-in-Continue-1
loop-slot-preserved-in-Continue-1 c =
    let m = c.args.message.now in
    let before = c.loop-slot.self in
    λ queue to.
    puts_one m c.args.stamp c.in-Some.slot.now c.next.new.self queue to c.in-Some-sent_to.to.now before c.put_row.new.self (sym c.in-Some-sent_to.ensures) c.in_ok-put_row.ensures
    ∙ sym (ap (λ slots. put_where (is_any_to m.queue queue to slots) (row_at c.args.stamp m) (told queue (Some to) before)) c.in-Some.ensures.steps)
    ∙ c.loop-slot.invariant queue to
