use Rattle.std.proofs.Common.{sym, ap, ◌∙◌, option_copied}
use Rattle.ready_slots.specs.Shown.{is_any_offered}
use Rattle.ready_slots.specs.Taking.{row_at, taken_where, told}
use Rattle.ready_slots.proofs.Taking.{none_less, one_less}
use Rattle.ready_slots.proofs.slots.ReadySlots.take_named.Goals as goal

pub loop-slot-init : goal.loop-slot-init
loop-slot-init c =
    let m = c.args.message.now in
    λ q d. ap (λ slots. taken_where (is_any_offered m.queue slots q d) (row_at c.args.stamp m) (told q d c.args.self.now)) c.into_iter-slot-iterator.ensures.into_iter_gives

pub loop-slot-preserved-in-Some-offered_to : goal.loop-slot-preserved-in-Some-offered_to
loop-slot-preserved-in-Some-offered_to c =
    let m = c.args.message.now in
    let before = c.loop-slot.self in
    λ q d.
    one_less m c.args.stamp c.in-Some.slot.now c.next.new.self q d c.in-Some-offered_to.name.now before c.take.new.self (sym c.in-Some-offered_to.ensures) c.take.ensures
    ∙ sym (ap (λ slots. taken_where (is_any_offered m.queue slots q d) (row_at c.args.stamp m) (told q d before)) c.in-Some.ensures.steps)
    ∙ c.loop-slot.invariant q d

pub loop-slot-preserved : goal.loop-slot-preserved
loop-slot-preserved c =
    let m = c.args.message.now in
    let before = c.loop-slot.self in
    λ q d.
    none_less m c.args.stamp c.in-Some.slot.now c.next.new.self q d before (sym c.offered_to.ensures ∙ ap option_copied c.in_default.is)
    ∙ sym (ap (λ slots. taken_where (is_any_offered m.queue slots q d) (row_at c.args.stamp m) (told q d before)) c.in-Some.ensures.steps)
    ∙ c.loop-slot.invariant q d
