use Rattle.queue_rows.specs.Propagating.{can_send_of}
use Rattle.remote_slots.specs.Few.{HasFewSlots}
use Rattle.remote_slots.proofs.Least.{least_is}
use Rattle.propagation.proofs.picking.pick_by.Goals as goal

pub first_to_send-requires : goal.first_to_send-requires
first_to_send-requires g c =
    least_is HasFewSlots (can_send_of c.args.schedule.now c.args.moment) (g.T.MessageTables.tables c.args.tables.now).messages c.in_ok-message.message.now c.requires c.in_ok-message.ensures
