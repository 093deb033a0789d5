use Rattle.std.proofs.Common.{ap}
use Rattle.std.proofs.lemmas.Result.{IfOk-weaker}
use Rattle.message_choice.specs.Asking.{sessions_of}
use Rattle.queue_rows.specs.Dequeueing.{given_by}
use Rattle.queue_rows.specs.declared.reply.Reply.TheVariants as replies
use Rattle.sessions.specs.declared.state.PositionMove.TheVariants as moves
use Rattle.dequeue_ops.specs.Asked.{by_choice, by_nothing, giving, look_of, refusal}
use Rattle.dequeue_ops.proofs.Freeing.{chosen-free, plain-shown, plain_session}
use Rattle.dequeue_ops.proofs.Meant.{does-same, given-chosen, shown-of}
use Rattle.dequeue_ops.proofs.by_request.give_chosen.Goals as goal

pub give-requires-clause-free : goal.give-requires-clause-free
give-requires-clause-free g c =
    let a = c.args.asked.now in
    let h = c.in-Found.ensures (sessions_of a.request.now.locks.now) (plain_session a) (plain-shown a) in
    chosen-free (g.T.MessageTables.tables c.args.store.now) a c.in-Found.message.now c.in-Found.slot h.0 h.1

pub returns-in_ok-position_at-in-Found : goal.returns-in_ok-position_at-in-Found
returns-in_ok-position_at-in-Found g c =
    let t = g.T.MessageTables.tables c.args.store.now in
    let a = c.args.asked.now in
    let p = c.in_ok-position_at-in-Found.field-0 in
    IfOk-weaker c.give.result _ _
    (λ e does. does-same a.request.now (giving t a (moves.Set p) c.in-Found.message.now c.in-Found.slot) (by_choice t a) e
    (λ sessions s is.
    let h = c.in-Found.ensures sessions s (shown-of a sessions s is) in
    given-chosen t a c.in-Found.message.now c.in-Found.slot sessions s p c.in_ok-position_at-in-Found.ensures h.0 h.1) does)
    c.give.ensures

pub returns-in-EndOfGroup : goal.returns-in-EndOfGroup
returns-in-EndOfGroup g c =
    let t = g.T.MessageTables.tables c.args.store.now in
    let a = c.args.asked.now in
    does-same a.request.now (refusal replies.EndOfGroup) (by_choice t a) c.refuse.result
    (λ sessions s is. ap (given_by (look_of t a sessions s) a.request.now.moment) (c.in-EndOfGroup.ensures sessions s (shown-of a sessions s is)).0) c.refuse.ensures

pub returns-in-Nothing : goal.returns-in-Nothing
returns-in-Nothing g c =
    let t = g.T.MessageTables.tables c.args.store.now in
    let a = c.args.asked.now in
    does-same a.request.now (by_nothing t a) (by_choice t a) c.give_nothing.result
    (λ sessions s is. ap (given_by (look_of t a sessions s) a.request.now.moment) (c.in-Nothing.ensures sessions s (shown-of a sessions s is)).0) (c.give_nothing.ensures t)
