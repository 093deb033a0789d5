use Rattle.remote_slots.proofs.Putting.{removes}
use Rattle.remote_slots.proofs.slots.RemoteSlots.remove.Goals as goal

pub returns : goal.returns
returns c = removes c.args.stamp c.args.message.now c.args.self.now c.take_each.new.self c.take_each.ensures
