use Rattle.std.proofs.Common.{sym}
use Rattle.message_choice.specs.Asking.{IsSoundFor}
use Rattle.ready_slots.proofs.Leading.{holds_at}
use Rattle.message_choice.proofs.rows.hit_at.Goals as goal

pub hit_of-requires : goal.hit_of-requires
hit_of-requires g c =
    let entries = g.M.StampedMessages.entries c.args.messages.now in
    holds_at (IsSoundFor c.args.asking.now) entries c.args.stamp c.in_ok-message.message.now c.requires (sym c.in_ok-message.ensures)
