use Rattle.std.proofs.Common.{ap, ◌∙◌}
use Rattle.std.specs.List.{list_any}
use Rattle.queue_rows.specs.Turns.{is_live}
use Rattle.session_registry.proofs.States.{any_live_state}
use Rattle.session_registry.proofs.session_states.SessionStates.any_live.Goals as goal

pub returns : goal.returns
returns c = c.any_live.ensures ∙ any_live_state c.self.inside.states ∙ ap (list_any is_live) c.self.view_is
