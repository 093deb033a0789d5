use Rattle.std.proofs.Common.{ap, sym, ◌∙◌}
use Rattle.std.specs.List.{list_any}
use Rattle.queue_rows.specs.Turns.{is_live}
use Rattle.session_registry.proofs.ShownSessions.{live-shown}
use Rattle.session_registry.proofs.registry.SessionRegistry.any_live.Goals as goal

pub returns : goal.returns
returns c = c.any_live.ensures ∙ sym (live-shown c.self.inside.locks c.self.inside.sessions) ∙ ap (λ v. list_any is_live v.sessions) c.self.view_is
