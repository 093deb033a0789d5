use Rattle.std.proofs.Common.{refl}
use Rattle.session_registry.proofs.Results.{ok_from}
use Rattle.session_registry.proofs.ShownSessions.{session_changes}
use Rattle.session_registry.specs.Sessions.{with_pending}
use Rattle.session_registry.proofs.registry.SessionRegistry.pend.Goals as goal

pub returns-clause-ok : goal.returns-clause-ok
returns-clause-ok c =
    let f = with_pending c.args.pending in
    ok_from c.pend.result c.pend.ensures.ok (session_changes f c.self.inside.locks c.self.inside.sessions c.pend.new.self c.args.at c.args.self.now c.self.view_is (λ s. refl))
