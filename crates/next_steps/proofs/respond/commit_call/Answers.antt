use Rattle.std.proofs.Common.{◌<◌, ◌^◌, All, sym, subst}
use Rattle.queue_rows.specs.declared.statement.Statement.TheVariants.{Commit}
use Rattle.sessions.specs.Numbers.{IsLowest}
use Rattle.enqueue_ops.proofs.Numbers.{group_known, lowest_known}
use Rattle.next_steps.proofs.Doings.{commit_meant, caller_few, caller_moment, caller_pendable, caller_valid}
use Rattle.next_steps.proofs.respond.commit_call.Goals as goal

pub commit_changes-requires-clause-moment : goal.commit_changes-requires-clause-moment
commit_changes-requires-clause-moment c = caller_moment c.args.caller Commit c.requires

pub commit_changes-requires-clause-group : goal.commit_changes-requires-clause-group
commit_changes-requires-clause-group c = subst (λ t. t.transaction < 2 ^ 62) (sym c.store.ensures) (group_known c.args.caller.database.now.tables (caller_valid c.args.caller Commit c.requires))

pub commit_changes-requires-clause-count : goal.commit_changes-requires-clause-count
commit_changes-requires-clause-count c = caller_few c.args.caller Commit c.requires

pub commit_changes-requires-clause-lowest : goal.commit_changes-requires-clause-lowest
commit_changes-requires-clause-lowest c = subst (λ t. All (IsLowest (2 ^ 62)) t.queues) (sym c.store.ensures) (lowest_known c.args.caller.database.now.tables (caller_valid c.args.caller Commit c.requires))

pub commit_changes-requires-clause-numbers : goal.commit_changes-requires-clause-numbers
commit_changes-requires-clause-numbers c = caller_pendable c.args.caller Commit c.requires

pub returns-clause-means : goal.returns-clause-means
returns-clause-means c = λ w s is. commit_meant c.args.caller c.store.result.now.tables c.store.ensures w s is c.in_ok-commit_changes.field-0 c.in_ok-commit_changes.ensures
