use Rattle.std.proofs.Common.{◌≡◌, ◌≤◌, ◌^◌, None, true, sym, subst, ◌∙◌}
use Rattle.queue_rows.specs.Valid.{is_valid}
use Rattle.queue_rows.specs.declared.statement.Statement.TheVariants as statements
use Rattle.next_steps.specs.Calling.{mark_in}
use Rattle.next_steps.proofs.Doings.{if_ok, enqueue_meant, caller_moment, caller_next, caller_valid, unmarked_by}
use Rattle.next_steps.proofs.respond.enqueue_call.Goals as goal

pub enqueue-requires-clause-valid : goal.enqueue-requires-clause-valid
enqueue-requires-clause-valid c = subst (λ t. is_valid t ≡ true) (sym c.store.ensures) (caller_valid c.args.caller (statements.Enqueue c.args.ask.now) c.requires)

pub enqueue-requires-clause-within : goal.enqueue-requires-clause-within
enqueue-requires-clause-within c = c.requires.within

pub enqueue-requires-clause-next : goal.enqueue-requires-clause-next
enqueue-requires-clause-next c = subst (λ n. n ≤ 2 ^ 61) (sym c.next.ensures) (caller_next c.args.caller (statements.Enqueue c.args.ask.now) c.requires)

pub enqueue-requires-clause-moment : goal.enqueue-requires-clause-moment
enqueue-requires-clause-moment c = caller_moment c.args.caller (statements.Enqueue c.args.ask.now) c.requires

pub returns-clause-means : goal.returns-clause-means
returns-clause-means c = if_ok c.moving.result c.moving.ensures.means (λ d does w s is.
    let ask = c.args.ask.now in
    enqueue_meant c.args.caller c.store.result.now.tables c.store.ensures c.in_ok-effect.effect w s is c.next.result ask ask.queue None c.next.ensures c.in_ok-effect.ensures.means
    ∙ does s is.state)

pub returns-clause-unmarked : goal.returns-clause-unmarked
returns-clause-unmarked c = if_ok c.moving.result c.moving.ensures.mark (λ d is. unmarked_by (mark_in d) c.in_ok-effect.effect.mark is c.in_ok-effect.ensures.unmarked)
