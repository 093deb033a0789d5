use Rattle.std.proofs.Common.{sym, ap, ◌∙◌, option_copied}
use Rattle.ready_slots.specs.Putting.{put_where}
use Rattle.ready_slots.specs.Shown.{is_any_offered}
use Rattle.ready_slots.specs.Taking.{row_at, told}
use Rattle.ready_slots.proofs.Putting.{none_more, one_more}
use Rattle.ready_slots.proofs.slots.ReadySlots.put_named.Goals as goal

pub loop-slot-init : goal.loop-slot-init
loop-slot-init c =
    let m = c.args.message.now in
    λ q d. ap (λ slots. put_where (is_any_offered m.queue slots q d) (row_at c.args.stamp m) (told q d c.args.self.now)) c.into_iter-slot-iterator.ensures.into_iter_gives

pub loop-slot-preserved-in-Continue-1 : goal.loop-slot-preserved-in-Continue-1
loop-slot-preserved-in-Continue-1 c =
    let m = c.args.message.now in
    let before = c.loop-slot.self in
    λ q d.
    one_more m c.args.stamp c.in-Some.slot.now c.next.new.self q d c.in-Some-offered_to.name.now before c.put_row.new.self (sym c.in-Some-offered_to.ensures) c.in_ok-put_row.ensures
    ∙ sym (ap (λ slots. put_where (is_any_offered m.queue slots q d) (row_at c.args.stamp m) (told q d before)) c.in-Some.ensures.steps)
    ∙ c.loop-slot.invariant q d

pub loop-slot-preserved : goal.loop-slot-preserved
loop-slot-preserved c =
    let m = c.args.message.now in
    let before = c.loop-slot.self in
    λ q d.
    none_more m c.args.stamp c.in-Some.slot.now c.next.new.self q d before (sym c.offered_to.ensures ∙ ap option_copied c.in_default.is)
    ∙ sym (ap (λ slots. put_where (is_any_offered m.queue slots q d) (row_at c.args.stamp m) (told q d before)) c.in-Some.ensures.steps)
    ∙ c.loop-slot.invariant q d
