use Rattle.std.proofs.lemmas.Result.{on_ok_weaker}
use Rattle.ready_slots.proofs.Slot.{changes_slot}
use Rattle.ready_slots.proofs.slots.ReadySlots.change_slot.Goals as goal

pub returns : goal.returns
returns c =
    on_ok_weaker c.set_named.result (changes_slot c.args.stamp c.args.slot c.args.message.now c.args.self.now c.set_row.new.self c.set_named.new.self c.in_ok-set_row.ensures) c.set_named.ensures
