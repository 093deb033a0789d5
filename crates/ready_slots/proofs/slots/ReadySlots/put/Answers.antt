use Rattle.std.proofs.lemmas.Result.{on_ok_weaker}
use Rattle.ready_slots.proofs.Putting.{puts}
use Rattle.ready_slots.proofs.slots.ReadySlots.put.Goals as goal

pub returns : goal.returns
returns c =
    on_ok_weaker c.put_named.result (puts c.args.stamp c.args.message.now c.args.self.now c.put_nameless.new.self c.put_named.new.self c.in_ok-put_nameless.ensures) c.put_named.ensures
