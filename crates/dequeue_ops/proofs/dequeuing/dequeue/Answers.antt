use Rattle.std.proofs.lemmas.Result.{IfOk-weaker}
use Rattle.dequeue_ops.proofs.Meant.{dequeue-means}
use Rattle.dequeue_ops.specs.declared.request.Request.{Request}
use Rattle.dequeue_ops.proofs.dequeuing.dequeue.Goals as goal

pub returns-clause-means : goal.returns-clause-means
returns-clause-means g c =
    let r : Request = record { alloc = c.args.alloc; locks = c.args.locks; actor = c.args.actor; session = c.args.session; ask = c.args.ask; moment = c.args.moment } in
    IfOk-weaker c.dequeue_from.result _ _ (λ e does. dequeue-means (g.T.MessageTables.tables c.args.store.now) r e does) c.dequeue_from.ensures
