use Rattle.std.proofs.Common.{Option, IfSome, sym, subst}
use Rattle.queue_rows.specs.declared.rows.MsgRow.{MsgRow}
use Rattle.dequeue_ops.specs.Asked.{IsSoundFor}
use Rattle.dequeue_ops.proofs.Freeing.{named-each}
use Rattle.dequeue_ops.proofs.by_request.give_named.Goals as goal

pub give_message-requires-clause-sound : goal.give_message-requires-clause-sound
give_message-requires-clause-sound g c =
    let a = c.args.asked.now in
    subst (λ (o : Option MsgRow). IfSome o (IsSoundFor a)) (sym c.in-Some.ensures)
    (named-each (IsSoundFor a) (g.T.MessageTables.tables c.args.store.now) a.request.now.session.now.at c.args.id c.requires.sound)
