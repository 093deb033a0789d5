use Rattle.std.proofs.Common.{All, [], None, ap, sym, subst, ◌∙◌}
use Rattle.queue_rows.specs.Meaning.{answers}
use Rattle.queue_rows.specs.declared.reply.Reply.TheVariants as replies
use Rattle.queue_rows.specs.declared.statement.Statement.TheVariants.{Rollback}
use Rattle.sessions.specs.Numbers.{AreCountable, IsDelaying}
use Rattle.next_steps.proofs.Doings.{rollback_meant, caller_moment, caller_valid}
use Rattle.next_steps.proofs.Numbers.{delays_known, retries_known}
use Rattle.next_steps.proofs.respond.rollback_call.Goals as goal

pub rollback_changes-requires-clause-moment : goal.rollback_changes-requires-clause-moment
rollback_changes-requires-clause-moment c = caller_moment c.args.caller Rollback c.requires

pub rollback_changes-requires-clause-delays : goal.rollback_changes-requires-clause-delays
rollback_changes-requires-clause-delays c = subst (λ t. All IsDelaying t.queues) (sym c.store.ensures) (delays_known c.args.caller.database.now.tables (caller_valid c.args.caller Rollback c.requires))

pub rollback_changes-requires-clause-retries : goal.rollback_changes-requires-clause-retries
rollback_changes-requires-clause-retries c = subst (λ t. All AreCountable t.messages) (sym c.store.ensures) (retries_known c.args.caller.database.now.tables (caller_valid c.args.caller Rollback c.requires))

pub returns-clause-means : goal.returns-clause-means
returns-clause-means c = λ w s is.
    rollback_meant c.args.caller c.store.result.now.tables c.store.ensures w s is c.in_ok-rollback_changes.field-0 c.in_ok-rollback_changes.ensures
    ∙ ap (λ positions. answers replies.Ok c.in_ok-rollback_changes.field-0 (record s { pending = []; marks = []; positions = positions; parked = None })) (sym c.new.ensures)
