use denote.Ref.{Bor}
use Rattle.std.proofs.Common.{◌≡◌, Option, Some, None, option_map, refl, ap, sym, ◌∙◌}
use Rattle.std.specs.Prelude.{option_copied, slice_get}
use Rattle.sessions.specs.declared.state.SessionState.{SessionState}
use Rattle.session_registry.specs.Sessions.{session_of, unmarked}
use Rattle.session_registry.proofs.ShownSessions.{unmarked-shown}
use Rattle.session_registry.proofs.registry.SessionRegistry.get.Goals as goal

-- what is kept of a session has no marks
plain_state : (o : Option (Bor SessionState)) → option_map session_of (option_copied o) ≡ option_map unmarked (option_map session_of (option_copied o))
plain_state None = refl
plain_state (Some s) = refl

pub returns : goal.returns
returns c =
    plain_state c.get.result
    ∙ ap (option_map unmarked) c.get.ensures
    ∙ sym (unmarked-shown c.self.inside.locks c.self.inside.sessions c.args.at)
    ∙ ap (λ v. option_map unmarked (slice_get v.sessions c.args.at)) c.self.view_is
