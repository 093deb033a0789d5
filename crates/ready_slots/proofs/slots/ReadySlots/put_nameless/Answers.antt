use Rattle.std.proofs.lemmas.Result.{on_ok_weaker}
use Rattle.ready_slots.proofs.Putting.{put_if_shown, stays_unless_shown}
use Rattle.ready_slots.proofs.slots.ReadySlots.put_nameless.Goals as goal

pub returns-then-shown : goal.returns-then-shown
returns-then-shown c =
    on_ok_weaker c.put_row.result (put_if_shown c.shown.result c.args.message.now c.args.stamp c.args.self.now c.put_row.new.self c.shown.ensures c.if-shown.true) c.put_row.ensures

pub returns-else-shown : goal.returns-else-shown
returns-else-shown c = stays_unless_shown c.shown.result c.args.message.now c.args.stamp c.args.self.now c.shown.ensures c.if-shown.false
