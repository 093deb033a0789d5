use Rattle.std.proofs.Common.{subst}
use Rattle.std.specs.List.{AllZip}
use Rattle.sessions.specs.States.{IsStateOf}
use Rattle.session_registry.specs.Locks.{shown}
use Rattle.session_registry.proofs.States.{states_are}
use Rattle.session_registry.proofs.registry.SessionRegistry.states.Goals as goal

pub returns : goal.returns
returns c =
    subst (λ v. AllZip IsStateOf c.all.result.now v.sessions) c.self.view_is
    (subst (λ ss. AllZip IsStateOf c.all.result.now (shown c.self.inside.locks ss)) c.all.ensures (states_are c.self.inside.locks c.all.result.now))
