use Rattle.std.proofs.Common.{length, ap, sym, ◌∙◌}
use Rattle.session_registry.proofs.States.{count_states}
use Rattle.session_registry.proofs.session_states.SessionStates.len.Goals as goal

pub returns : goal.returns
returns c = c.len.ensures ∙ sym (count_states c.self.inside.states) ∙ ap length c.self.view_is
