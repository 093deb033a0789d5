use Rattle.slot_marks.specs.Marks.{marks_of}
use Rattle.message_choice.proofs.Sounding.{are_sound}
use Rattle.dequeue_ops.proofs.Numbers.{may_commit}
use Rattle.dequeue_ops.proofs.dequeuing.dequeue_where.Goals as goal

pub dequeue_by-requires-clause-commits : goal.dequeue_by-requires-clause-commits
dequeue_by-requires-clause-commits g c = may_commit (g.T.MessageTables.tables c.args.store.now) c.args.request.now.moment c.requires.can.valid c.requires.can.moment

pub dequeue_by-requires-clause-sound : goal.dequeue_by-requires-clause-sound
dequeue_by-requires-clause-sound g c =
    let r = c.args.request.now in
    are_sound (g.T.MessageTables.tables c.args.store.now) (marks_of r.locks.now r.actor) r.ask.now.queue c.args.queue.now c.args.table.now c.requires.queue c.requires.table c.requires.can.valid c.requires.can.groups
