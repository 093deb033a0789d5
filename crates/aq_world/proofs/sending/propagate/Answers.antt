use Rattle.std.proofs.Common.{◌≡◌, Some, option_map, sym, ap, subst, ◌∙◌}
use Rattle.queue_rows.specs.Order.{IsFront}
use Rattle.queue_rows.specs.Sending.{next_sending}
use Rattle.queue_rows.specs.Turns.{propagated}
use Rattle.next_steps.specs.Sendings.{sending_meant}
use Rattle.next_steps.proofs.Sendings.{ready_front, sent_whole}
use Rattle.aq_world.proofs.Turning.{at_err}
use Rattle.aq_world.proofs.Goings.{as_memory, as_ok, as_passed, never_halted, quiet_ok, quiet_on, quiet_same}
use Rattle.aq_world.proofs.sending.propagate.Goals as goal

pub returns-in_err-send-clause-front : goal.returns-in_err-send-clause-front
returns-in_err-send-clause-front g c =
    let w = c.args.state.now.world in
    let next : next_sending w ≡ Some (sending_meant c.in-Some.sending) = ap next_sending (sym c.run.ensures) ∙ sym c.in_ok-sending.ensures ∙ ap (option_map sending_meant) c.in-Some.is in
    at_err c.from_residual-in_err-send.result (subst (λ v. IsFront v.entries (propagated c.args.actor w).entries) (sym c.in_err-send.ensures.err)
    (ready_front c.args.actor (sending_meant c.in-Some.sending) w c.make_ready.new.state.world next c.in_ok-make_ready.ensures.ok))

pub returns-clause-ok : goal.returns-clause-ok
returns-clause-ok g c =
    let w = c.args.state.now.world in
    let next : next_sending w ≡ Some (sending_meant c.in-Some.sending) = ap next_sending (sym c.run.ensures) ∙ sym c.in_ok-sending.ensures ∙ ap (option_map sending_meant) c.in-Some.is in
    sent_whole c.args.actor (sending_meant c.in-Some.sending) w c.make_ready.new.state.world c.send.new.state.world next c.in_ok-make_ready.ensures.ok c.in_ok-send.ensures.ok

pub returns-in_err-sending-clause-disks : goal.returns-in_err-sending-clause-disks
returns-in_err-sending-clause-disks g c = as_memory c.from_residual.result _ _ c.from_residual.ensures.1 (quiet_same _)

pub returns-in_err-make_ready-clause-disks : goal.returns-in_err-make_ready-clause-disks
returns-in_err-make_ready-clause-disks g c = as_passed c.make_ready.result _ c.from_residual-in_err-make_ready.result _ _ c.in_err-make_ready.was c.from_residual-in_err-make_ready.ensures.1 c.make_ready.ensures.disks

pub returns-in_err-send-clause-disks : goal.returns-in_err-send-clause-disks
returns-in_err-send-clause-disks g c = as_memory c.from_residual-in_err-send.result _ _ c.from_residual-in_err-send.ensures.1 (quiet_on _ _ _ (quiet_ok c.make_ready.result _ _ _ c.in_ok-make_ready.was c.make_ready.ensures.disks) c.send.ensures.disks)

pub returns-clause-disks : goal.returns-clause-disks
returns-clause-disks g c = as_ok _ _ _ (quiet_on _ _ _ (quiet_ok c.make_ready.result _ _ _ c.in_ok-make_ready.was c.make_ready.ensures.disks) c.send.ensures.disks)

pub returns-in_default-clause-disks : goal.returns-in_default-clause-disks
returns-in_default-clause-disks g c = as_ok _ _ _ (quiet_same _)

pub returns-in_err-sending-clause-due : goal.returns-in_err-sending-clause-due
returns-in_err-sending-clause-due g c halted = never_halted c.from_residual.result c.from_residual.ensures.1 halted

pub returns-in_err-make_ready-clause-due : goal.returns-in_err-make_ready-clause-due
returns-in_err-make_ready-clause-due g c halted fine =
    let w = c.args.state.now.world in
    let next : next_sending w ≡ Some (sending_meant c.in-Some.sending) = ap next_sending (sym c.run.ensures) ∙ sym c.in_ok-sending.ensures ∙ ap (option_map sending_meant) c.in-Some.is in
    let due = c.in_err-make_ready.ensures.due fine in
    (record { sending = sending_meant c.in-Some.sending; next = next; waits = due.1; undurable = due.2 }, c.in_err-make_ready.ensures.err)

pub returns-in_err-send-clause-due : goal.returns-in_err-send-clause-due
returns-in_err-send-clause-due g c halted = never_halted c.from_residual-in_err-send.result c.from_residual-in_err-send.ensures.1 halted
