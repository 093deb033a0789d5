use Rattle.std.proofs.Common.{◌+◌, ◌<◌, ◌^◌, refl, subst, sym}
use Rattle.std.specs.Prelude.{IfSome, slice_get}
use Rattle.queue_rows.specs.Session.{Session}
use Rattle.session_registry.specs.Sessions.{AreMarksOwned, after_call}
use Rattle.session_registry.proofs.ShownSessions.{session_changes, owned-changed, of-shown}
use Rattle.session_registry.proofs.registry.SessionRegistry.call.Goals as goal

pub call-requires : goal.call-requires
call-requires c =
    let P : Session → Type 0 = λ s. s.next + 1 < 2 ^ 32 in
    of-shown P c.self.inside.locks c.self.inside.sessions c.args.at (subst (λ v. IfSome (slice_get v.sessions c.args.at) P) (sym c.self.view_is) c.requires)

pub invariant_of-self : goal.invariant_of-self
invariant_of-self c =
    let f = after_call c.args.positions c.args.home c.args.away in
    subst (AreMarksOwned c.self.inside.locks) (sym c.call.ensures) (owned-changed f c.self.inside.locks c.self.inside.sessions c.args.at (λ s. refl) c.self.invariant)

pub returns : goal.returns
returns c =
    let f = after_call c.args.positions c.args.home c.args.away in
    session_changes f c.self.inside.locks c.self.inside.sessions c.call.new.self c.args.at c.args.self.now c.self.view_is (λ s. refl) c.call.ensures
