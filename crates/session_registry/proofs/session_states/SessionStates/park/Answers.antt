use Rattle.std.proofs.Common.{ap, ◌∙◌}
use Rattle.session_registry.specs.Sessions.{changed_at, after_park}
use Rattle.session_registry.proofs.session_states.SessionStates.park.Goals as goal

pub returns : goal.returns
returns c = c.park_at.ensures ∙ ap (changed_at c.args.at (after_park c.args.since)) c.self.view_is
