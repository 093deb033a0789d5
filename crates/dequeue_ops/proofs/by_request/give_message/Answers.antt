use Rattle.std.proofs.Common.{◌∙◌, Some, ap, subst}
use Rattle.std.proofs.lemmas.Result.{IfOk-weaker}
use Rattle.slot_marks.specs.Marks.{IsFreeFor}
use Rattle.queue_rows.specs.Groups.{group_of}
use Rattle.queue_rows.specs.Dequeueing.{is_browse}
use Rattle.queue_rows.specs.declared.rows.TableRow.{TableRow}
use Rattle.queue_rows.specs.declared.reply.Reply.TheVariants as replies
use Rattle.sessions.specs.declared.state.PositionMove.TheVariants as moves
use Rattle.dequeue_ops.specs.Asked.{by_name, giving, look_of, refusal}
use Rattle.dequeue_ops.proofs.Meant.{does-same, shown-of}
use Rattle.dequeue_ops.proofs.by_request.give_message.Goals as goal

pub claim-requires : goal.claim-requires
claim-requires g c = record { sound = rw (c.pick_of.ensures.queue, c.pick_of.ensures.table) c.requires.sound }

pub give-requires-clause-free : goal.give-requires-clause-free
give-requires-clause-free g c =
    let r = c.args.asked.now.request.now in
    let m = c.args.message.now in
    λ looked removed.
    subst (λ (table : TableRow). IsFreeFor r.locks.now r.actor (record { id = m.id; slot = c.in-Given.slot; removed = removed; group = group_of table m c.in-Given.slot }))
    c.pick_of.ensures.table (c.in-Given.ensures.free (ap is_browse c.pick_of.ensures.mode ∙ looked) removed)

pub returns-in-Given : goal.returns-in-Given
returns-in-Given g c =
    let t = g.T.MessageTables.tables c.args.store.now in
    let a = c.args.asked.now in
    let m = c.args.message.now in
    IfOk-weaker c.give.result _ _
    (λ e does. does-same a.request.now (giving t a moves.Keep m c.in-Given.slot) (by_name t a (Some m)) e
    (λ sessions s is. c.in-Given.ensures.claim (look_of t a sessions s) a.request.now.moment (c.pick_of.ensures.pick t sessions s (shown-of a sessions s is))) does)
    c.give.ensures

pub returns-in-Held : goal.returns-in-Held
returns-in-Held g c =
    let t = g.T.MessageTables.tables c.args.store.now in
    let a = c.args.asked.now in
    does-same a.request.now (refusal (replies.Held c.in-Held.other)) (by_name t a (Some c.args.message.now)) c.refuse.result
    (λ sessions s is. c.in-Held.ensures.claim (look_of t a sessions s) a.request.now.moment (c.pick_of.ensures.pick t sessions s (shown-of a sessions s is))) c.refuse.ensures

pub returns-in-NotARecipient : goal.returns-in-NotARecipient
returns-in-NotARecipient g c =
    let t = g.T.MessageTables.tables c.args.store.now in
    let a = c.args.asked.now in
    does-same a.request.now (refusal replies.NotARecipient) (by_name t a (Some c.args.message.now)) c.refuse-in-NotARecipient.result
    (λ sessions s is. c.in-NotARecipient.ensures.claim (look_of t a sessions s) a.request.now.moment (c.pick_of.ensures.pick t sessions s (shown-of a sessions s is))) c.refuse-in-NotARecipient.ensures

pub returns-in-NoSuchMessage : goal.returns-in-NoSuchMessage
returns-in-NoSuchMessage g c =
    let t = g.T.MessageTables.tables c.args.store.now in
    let a = c.args.asked.now in
    does-same a.request.now (refusal replies.NoSuchMessage) (by_name t a (Some c.args.message.now)) c.refuse-in-NoSuchMessage.result
    (λ sessions s is. c.in-NoSuchMessage.ensures.claim (look_of t a sessions s) a.request.now.moment (c.pick_of.ensures.pick t sessions s (shown-of a sessions s is))) c.refuse-in-NoSuchMessage.ensures
