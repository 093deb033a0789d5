use Rattle.ready_slots.proofs.Taking.{removes}
use Rattle.ready_slots.proofs.slots.ReadySlots.remove.Goals as goal

pub returns : goal.returns
returns c = removes c.args.stamp c.args.message.now c.args.self.now c.take_nameless.new.self c.take_named.new.self c.take_nameless.ensures c.take_named.ensures
