use Rattle.std.proofs.Common.{[], ap, ◌∙◌}
use Rattle.queue_rows.specs.Session.{Session}
use Rattle.session_registry.specs.Sessions.{changed_at}
use Rattle.session_registry.proofs.session_states.SessionStates.clear.Goals as goal

pub returns : goal.returns
returns c = c.clear_at.ensures ∙ ap (changed_at c.args.at (λ (s : Session). record s { pending = [] })) c.self.view_is
