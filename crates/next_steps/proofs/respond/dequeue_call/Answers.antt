use Rattle.std.proofs.Common.{◌≡◌, true, ap, sym, subst, ◌∙◌}
use Rattle.slot_marks.specs.Marks.{IsFreeFor, marks_of}
use Rattle.queue_rows.specs.Valid.{is_valid}
use Rattle.queue_rows.specs.declared.statement.Statement.TheVariants as statements
use Rattle.sessions.specs.Effects.{meant}
use Rattle.message_choice.specs.Sound.{AreInGroups}
use Rattle.next_steps.specs.Calling.{mark_in}
use Rattle.next_steps.proofs.Doings.{if_ok, dequeue_meant, caller_groups, caller_moment, caller_valid, free_by}
use Rattle.next_steps.proofs.respond.dequeue_call.Goals as goal

pub dequeue-requires-clause-tables : goal.dequeue-requires-clause-tables
dequeue-requires-clause-tables c = subst (λ t. is_valid t ≡ true) (sym c.store.ensures) (caller_valid c.args.caller (statements.Dequeue c.args.ask.now) c.requires)

pub dequeue-requires-clause-moment : goal.dequeue-requires-clause-moment
dequeue-requires-clause-moment c = caller_moment c.args.caller (statements.Dequeue c.args.ask.now) c.requires

pub dequeue-requires-clause-groups : goal.dequeue-requires-clause-groups
dequeue-requires-clause-groups c =
    subst (λ t. AreInGroups t (marks_of c.args.caller.locks.now c.args.caller.actor)) (sym c.store.ensures) (caller_groups c.args.caller (statements.Dequeue c.args.ask.now) c.requires)

pub returns-clause-means : goal.returns-clause-means
returns-clause-means c = if_ok c.moving.result c.moving.ensures.means (λ d does w s is.
    let k = c.args.caller in
    let ask = c.args.ask.now in
    let e = c.in_ok-effect.effect in
    dequeue_meant k c.store.result.now.tables c.store.ensures e w s is ask c.in_ok-effect.ensures.means
    ∙ ap (λ consumer. meant e ask.queue consumer k.moment s) (sym c.as_ref.ensures.value)
    ∙ does s is.state)

pub returns-clause-free : goal.returns-clause-free
returns-clause-free c = if_ok c.moving.result c.moving.ensures.mark (λ d is. free_by (IsFreeFor c.args.caller.locks.now c.args.caller.actor) (mark_in d) c.in_ok-effect.effect.mark is c.in_ok-effect.ensures.free)
