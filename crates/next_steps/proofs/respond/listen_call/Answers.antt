use Rattle.std.proofs.Common.{◌≡◌, [], None, true, ap, sym, subst, ◌∙◌}
use Rattle.slot_marks.specs.Marks.{marks_of}
use Rattle.queue_rows.specs.Valid.{is_valid}
use Rattle.queue_rows.specs.declared.statement.Statement.TheVariants as statements
use Rattle.message_choice.specs.Sound.{AreInGroups}
use Rattle.next_steps.specs.Calling.{mark_in}
use Rattle.next_steps.proofs.Doings.{listen_meant, caller_groups, caller_valid, unmarked_by}
use Rattle.next_steps.proofs.respond.listen_call.Goals as goal

pub listen-requires-clause-tables : goal.listen-requires-clause-tables
listen-requires-clause-tables c = subst (λ t. is_valid t ≡ true) (sym c.store.ensures) (caller_valid c.args.caller (statements.Listen c.args.ask.now) c.requires)

pub listen-requires-clause-within : goal.listen-requires-clause-within
listen-requires-clause-within c = c.requires.within

pub listen-requires-clause-groups : goal.listen-requires-clause-groups
listen-requires-clause-groups c =
    subst (λ t. AreInGroups t (marks_of c.args.caller.locks.now c.args.caller.actor)) (sym c.store.ensures) (caller_groups c.args.caller (statements.Listen c.args.ask.now) c.requires)

pub staying-requires : goal.staying-requires
staying-requires c = ap (λ e. e.position) c.in_ok-effect.ensures.plain

pub returns-clause-means : goal.returns-clause-means
returns-clause-means c = λ w s is.
    listen_meant c.args.caller c.store.result.now.tables c.store.ensures c.in_ok-effect.effect w s is c.args.ask.now [] None c.in_ok-effect.ensures.means
    ∙ c.staying.ensures.means [] None s is.state

pub returns-clause-unmarked : goal.returns-clause-unmarked
returns-clause-unmarked c = unmarked_by (mark_in c.staying.result) c.in_ok-effect.effect.mark c.staying.ensures.mark (ap (λ e. e.mark) c.in_ok-effect.ensures.plain)
