use Rattle.std.proofs.Common.{ap, ◌∙◌}
use Rattle.session_registry.specs.Sessions.{changed_at, after_reply}
use Rattle.session_registry.proofs.session_states.SessionStates.tell.Goals as goal

pub returns : goal.returns
returns c = c.tell_at.ensures ∙ ap (changed_at c.args.at (after_reply)) c.self.view_is
