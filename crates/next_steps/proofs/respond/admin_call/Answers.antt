use Rattle.std.proofs.Common.{[], None, ap, ◌∙◌}
use Rattle.std.specs.Prelude.{option_copied}
use Rattle.queue_rows.specs.declared.statement.Statement.TheVariants as statements
use Rattle.next_steps.specs.Calling.{mark_in}
use Rattle.next_steps.proofs.Doings.{admin_meant, caller_states, unmarked_by}
use Rattle.next_steps.proofs.respond.admin_call.Goals as goal

pub admin-requires : goal.admin-requires
admin-requires c = caller_states c.args.caller (statements.Admin c.args.ask.now) c.requires

pub staying-requires : goal.staying-requires
staying-requires c = ap (λ e. e.position) c.in_ok-effect.ensures.plain.alone

pub returns-clause-means : goal.returns-clause-means
returns-clause-means c = λ w s is.
    admin_meant c.args.caller c.store.result.now.tables c.store.ensures c.in_ok-effect.effect w s is (option_copied c.as_ref.result) c.args.ask.now [] None c.as_ref.ensures.value c.in_ok-effect.ensures.means
    ∙ c.staying.ensures.means [] None s is.state

pub returns-clause-unmarked : goal.returns-clause-unmarked
returns-clause-unmarked c = unmarked_by (mark_in c.staying.result) c.in_ok-effect.effect.mark c.staying.ensures.mark (ap (λ e. e.mark) c.in_ok-effect.ensures.plain.alone)
