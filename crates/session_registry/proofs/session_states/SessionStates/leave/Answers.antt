use Rattle.std.proofs.Common.{ap, ◌∙◌}
use Rattle.session_registry.specs.Sessions.{left_by}
use Rattle.session_registry.proofs.session_states.SessionStates.leave.Goals as goal

pub returns : goal.returns
returns c = c.leave_all.ensures ∙ ap (left_by c.args.db c.args.queues.now) c.self.view_is
