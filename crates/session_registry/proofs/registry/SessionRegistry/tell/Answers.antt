use Rattle.std.proofs.Common.{refl}
use Rattle.session_registry.proofs.ShownSessions.{session_changes}
use Rattle.session_registry.specs.Sessions.{after_reply}
use Rattle.session_registry.proofs.registry.SessionRegistry.tell.Goals as goal

pub returns : goal.returns
returns c =
    session_changes after_reply c.self.inside.locks c.self.inside.sessions c.tell.new.self c.args.at c.args.self.now c.self.view_is (λ s. refl) c.tell.ensures
