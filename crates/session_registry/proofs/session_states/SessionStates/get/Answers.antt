use Rattle.std.proofs.Common.{option_map, ap, sym, ◌∙◌}
use Rattle.std.specs.Prelude.{slice_get}
use Rattle.session_registry.specs.Sessions.{session_of}
use Rattle.session_registry.proofs.States.{got_state}
use Rattle.session_registry.proofs.session_states.SessionStates.get.Goals as goal

pub returns : goal.returns
returns c = ap (option_map session_of) c.get.ensures ∙ sym (got_state c.self.inside.states c.args.at) ∙ ap (λ ss. slice_get ss c.args.at) c.self.view_is
