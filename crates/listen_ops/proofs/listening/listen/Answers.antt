use Rattle.std.proofs.Common.{◌≡◌, ◌∙◌, None, Option, Some, ap, subst, sym}
use Rattle.queue_rows.specs.Listening.{agents_fault}
use Rattle.queue_rows.specs.declared.reply.Reply.{Reply}
use Rattle.queue_rows.specs.declared.tables.Tables.{Tables}
use Rattle.sessions.specs.Effects.{plain_effect}
use Rattle.sessions.specs.declared.state.Effect.{Effect}
use Rattle.sessions.specs.declared.state.Verdict.TheVariants.{Park}
use Rattle.listen_ops.specs.Listened.{IsListen, ServesFirst}
use Rattle.listen_ops.proofs.Listens.{few_agents, listens-fault, listens-first, listens-no-more, listens-on}
use Rattle.listen_ops.proofs.listening.listen.Goals as goal

pub returns-in-Some-clause-means : goal.returns-in-Some-clause-means
returns-in-Some-clause-means g c =
    let t = g.T.MessageTables.tables c.args.store.now in
    let ask = c.args.ask.now in
    let fault : agents_fault t ask.agents ≡ Some c.in-Some.reply = sym (c.in-Some.ensures ∙ ap (λ (x : Tables). agents_fault x ask.agents) c.tables.ensures) in
    subst (λ (e : Effect). IsListen t c.args.locks.now c.args.actor c.args.session.now ask c.args.moment e) (sym c.answered.ensures)
    (listens-fault t c.args.locks.now c.args.actor c.args.session.now ask c.args.moment c.in-Some.reply fault)

pub served-requires-clause-few : goal.served-requires-clause-few
served-requires-clause-few g c = few_agents c.args.ask.now c.requires.within

pub returns-in-Some-2-clause-means : goal.returns-in-Some-2-clause-means
returns-in-Some-2-clause-means g c =
    let t = g.T.MessageTables.tables c.args.store.now in
    let ask = c.args.ask.now in
    let fault : agents_fault t ask.agents ≡ None = sym (c.in_default.ensures ∙ ap (λ (x : Tables). agents_fault x ask.agents) c.tables.ensures) in
    let first : ServesFirst t c.args.locks.now c.args.actor ask.agents (Some c.in-Some-2.reply) = subst (λ (o : Option Reply). ServesFirst t c.args.locks.now c.args.actor ask.agents o) c.in-Some-2.is c.in_ok-reply.ensures in
    subst (λ (e : Effect). IsListen t c.args.locks.now c.args.actor c.args.session.now ask c.args.moment e) (sym c.answered-in-Some-2.ensures)
    (listens-first t c.args.locks.now c.args.actor c.args.session.now ask c.args.moment c.in-Some-2.reply fault first)

pub returns-then-still_waits-clause-means : goal.returns-then-still_waits-clause-means
returns-then-still_waits-clause-means g c =
    let t = g.T.MessageTables.tables c.args.store.now in
    let ask = c.args.ask.now in
    let fault : agents_fault t ask.agents ≡ None = sym (c.in_default.ensures ∙ ap (λ (x : Tables). agents_fault x ask.agents) c.tables.ensures) in
    let first : ServesFirst t c.args.locks.now c.args.actor ask.agents None = subst (λ (o : Option Reply). ServesFirst t c.args.locks.now c.args.actor ask.agents o) c.in_default-2.is c.in_ok-reply.ensures in
    subst (λ (e : Effect). IsListen t c.args.locks.now c.args.actor c.args.session.now ask c.args.moment e) (sym (c.plain.ensures ∙ ap (plain_effect Park) c.new.ensures))
    (listens-on t c.args.locks.now c.args.actor c.args.session.now ask c.args.moment fault first (λ s e. sym c.if-still_waits.true ∙ c.still_waits.ensures s e))

pub returns-else-still_waits-clause-means : goal.returns-else-still_waits-clause-means
returns-else-still_waits-clause-means g c =
    let t = g.T.MessageTables.tables c.args.store.now in
    let ask = c.args.ask.now in
    let fault : agents_fault t ask.agents ≡ None = sym (c.in_default.ensures ∙ ap (λ (x : Tables). agents_fault x ask.agents) c.tables.ensures) in
    let first : ServesFirst t c.args.locks.now c.args.actor ask.agents None = subst (λ (o : Option Reply). ServesFirst t c.args.locks.now c.args.actor ask.agents o) c.in_default-2.is c.in_ok-reply.ensures in
    subst (λ (e : Effect). IsListen t c.args.locks.now c.args.actor c.args.session.now ask c.args.moment e) (sym c.answered-else-still_waits.ensures)
    (listens-no-more t c.args.locks.now c.args.actor c.args.session.now ask c.args.moment fault first (λ s e. sym c.if-still_waits.false ∙ c.still_waits.ensures s e))
