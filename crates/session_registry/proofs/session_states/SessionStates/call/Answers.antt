use Rattle.std.proofs.Common.{◌+◌, ◌<◌, ◌^◌, ap, sym, subst, ◌∙◌}
use Rattle.std.specs.Prelude.{IfSome, slice_get}
use Rattle.session_registry.specs.Sessions.{changed_at, after_call}
use Rattle.session_registry.proofs.States.{got_of}
use Rattle.session_registry.proofs.session_states.SessionStates.call.Goals as goal

pub returns : goal.returns
returns c = c.call_at.ensures ∙ ap (changed_at c.args.at (after_call c.args.positions c.args.home c.args.away)) c.self.view_is

pub call_at-requires : goal.call_at-requires
call_at-requires c =
    got_of (λ t. t.next + 1 < 2 ^ 32) c.self.inside.states c.args.at (subst (λ ss. IfSome (slice_get ss c.args.at) (λ t. t.next + 1 < 2 ^ 32)) (sym c.self.view_is) c.requires)
