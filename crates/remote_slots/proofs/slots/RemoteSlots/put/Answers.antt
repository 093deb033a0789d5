use Rattle.std.proofs.lemmas.Result.{on_ok_weaker}
use Rattle.remote_slots.proofs.Putting.{puts}
use Rattle.remote_slots.proofs.slots.RemoteSlots.put.Goals as goal

pub returns : goal.returns
returns c = on_ok_weaker c.put_each.result (puts c.args.stamp c.args.message.now c.args.self.now c.put_each.new.self) c.put_each.ensures
