use Rattle.std.proofs.Common.{ap, ◌∙◌}
use Rattle.std.specs.Prelude.{map}
use Rattle.session_registry.specs.Sessions.{session_of, changed_at, with_pending}
use Rattle.session_registry.proofs.Results.{ok_from, err_from}
use Rattle.session_registry.proofs.session_states.SessionStates.pend.Goals as goal

pub returns-clause-ok : goal.returns-clause-ok
returns-clause-ok c = ok_from c.pend_at.result c.pend_at.ensures.ok (λ is. is ∙ ap (changed_at c.args.at (with_pending c.args.pending)) c.self.view_is)

pub returns-clause-err : goal.returns-clause-err
returns-clause-err c = err_from c.pend_at.result c.pend_at.ensures.err (λ is. ap (map session_of) is ∙ c.self.view_is)
