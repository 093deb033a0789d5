use Rattle.std.proofs.Common.{◌≡◌, false, refl, sym, ap, ◌∙◌}
use Rattle.queue_rows.specs.Sending.{may_follow}
use Rattle.queue_rows.specs.Turns.{is_durable}
use Rattle.durable_state.specs.Held.{HasFailed}
use Rattle.durable_state.specs.declared.broken.Broken.TheVariants.{Halted}
use Rattle.next_steps.specs.Sendings.{sending_meant}
use Rattle.aq_world.proofs.Goings.{as_failed, as_ok, quiet_by, quiet_same}
use Rattle.aq_world.proofs.Mounting.{if_passed}
use Rattle.aq_world.proofs.sending.make_ready.Goals as goal

pub returns-in_err-flush-clause-disks : goal.returns-in_err-flush-clause-disks
returns-in_err-flush-clause-disks g c = as_failed c.from_residual.result _ _ c.from_residual.ensures.1 c.flush.ensures.disks c.flush.ensures.adds c.in_err-flush.ensures.halted

pub returns-clause-disks : goal.returns-clause-disks
returns-clause-disks g c = as_ok _ _ _ (quiet_by _ _ c.flush.ensures.disks c.flush.ensures.adds (λ failed. absurd (c.in_ok-flush.ensures.unfailed failed)))

pub returns-then-may_follow-clause-disks : goal.returns-then-may_follow-clause-disks
returns-then-may_follow-clause-disks g c = as_ok _ _ _ (quiet_same _)

pub returns-in_err-flush-clause-due : goal.returns-in_err-flush-clause-due
returns-in_err-flush-clause-due g c =
    let w = c.args.state.now.world in
    let s = sending_meant c.args.sending.now in
    let waits : may_follow w s ≡ false = ap (λ v. may_follow v s) (sym c.run.ensures) ∙ sym c.may_follow.ensures ∙ c.if-may_follow.false in
    if_passed c.from_residual.result Halted (λ why. (HasFailed c.args.state.now → ⊥) → (why ≡ Halted) × (may_follow w s ≡ false) × (is_durable w ≡ false)) c.from_residual.ensures.1
    (λ fine. (refl, waits, c.in_err-flush.ensures.due fine))
