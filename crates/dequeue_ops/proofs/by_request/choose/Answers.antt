use Rattle.dequeue_ops.specs.Asked.{look_of}
use Rattle.dequeue_ops.proofs.by_request.choose.Goals as goal

pub choose-requires : goal.choose-requires
choose-requires g c = record { sound = rw (c.pick_of.ensures.queue, c.pick_of.ensures.table) c.requires.sound }

pub returns : goal.returns
returns g c =
    let t = g.T.MessageTables.tables c.args.store.now in
    λ sessions s is.
    let of = c.pick_of.ensures.pick t sessions s is in
    (c.choose.ensures.choice (look_of t c.args.asked.now sessions s) of, c.choose.ensures.slot (look_of t c.args.asked.now sessions s) of)
