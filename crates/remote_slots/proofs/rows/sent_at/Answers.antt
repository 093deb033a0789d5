use Rattle.std.proofs.Common.{sym}
use Rattle.ready_slots.proofs.Leading.{holds_at}
use Rattle.remote_slots.specs.Few.{HasFewSlots}
use Rattle.remote_slots.proofs.rows.sent_at.Goals as goal

pub can_send_of-requires : goal.can_send_of-requires
can_send_of-requires g c =
    let entries = g.M.StampedMessages.entries c.args.messages.now in
    holds_at HasFewSlots entries c.args.stamp c.in_ok-message.message.now c.requires (sym c.in_ok-message.ensures)
