use Rattle.std.proofs.Common.{length, ap, sym, ◌∙◌}
use Rattle.session_registry.proofs.ShownSessions.{length-shown}
use Rattle.session_registry.proofs.registry.SessionRegistry.len.Goals as goal

pub returns : goal.returns
returns c = c.len.ensures ∙ sym (length-shown c.self.inside.locks c.self.inside.sessions) ∙ ap (λ v. length v.sessions) c.self.view_is
