use Rattle.queue_rows.specs.Groups.{group_of}
use Rattle.message_choice.proofs.Holding.{held_by}
use Rattle.message_choice.proofs.test.is_held.Goals as goal

pub returns-in-Some : goal.returns-in-Some
returns-in-Some c =
    let a = c.args.asking.now in
    let m = c.args.message.now in
    held_by a.locks.now a.actor m.id c.args.slot (group_of a.pick.now.table.now m c.args.slot) c.in-Some.holder c.in-Some.ensures.once (c.requires.sound.groups c.requires.here c.args.slot) c.in-Some.ensures.some
