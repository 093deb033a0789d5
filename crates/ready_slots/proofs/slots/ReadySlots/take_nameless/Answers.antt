use Rattle.ready_slots.proofs.Taking.{keeps_unless_shown, take_if_shown}
use Rattle.ready_slots.proofs.slots.ReadySlots.take_nameless.Goals as goal

pub returns-then-shown : goal.returns-then-shown
returns-then-shown c =
    take_if_shown c.shown.result c.args.message.now c.args.stamp c.args.self.now c.take.new.self c.shown.ensures c.if-shown.true c.take.ensures

pub returns-else-shown : goal.returns-else-shown
returns-else-shown c = keeps_unless_shown c.shown.result c.args.message.now c.args.stamp c.args.self.now c.shown.ensures c.if-shown.false
