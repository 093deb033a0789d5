use Rattle.std.proofs.Common.{refl, sym, subst}
use Rattle.session_registry.specs.Sessions.{AreMarksOwned, after_park}
use Rattle.session_registry.proofs.ShownSessions.{session_changes, owned-changed}
use Rattle.session_registry.proofs.registry.SessionRegistry.park.Goals as goal

pub invariant_of-self : goal.invariant_of-self
invariant_of-self c =
    let f = after_park c.args.since in
    subst (AreMarksOwned c.self.inside.locks) (sym c.park.ensures) (owned-changed f c.self.inside.locks c.self.inside.sessions c.args.at (λ s. refl) c.self.invariant)

pub returns : goal.returns
returns c =
    let f = after_park c.args.since in
    session_changes f c.self.inside.locks c.self.inside.sessions c.park.new.self c.args.at c.args.self.now c.self.view_is (λ s. refl) c.park.ensures
