use Rattle.std.proofs.Common.{sym, ap, subst, ◌∙◌}
use Rattle.session_registry.specs.Locks.{shown}
use Rattle.session_registry.specs.Sessions.{AreMarksOwned, left_by}
use Rattle.session_registry.proofs.Leaving.{left-shown, owned-left}
use Rattle.session_registry.proofs.registry.SessionRegistry.leave.Goals as goal

pub invariant_of-self : goal.invariant_of-self
invariant_of-self c =
    let p = c.self.inside in
    subst (AreMarksOwned p.locks) (sym c.leave.ensures) (owned-left c.args.db c.args.queues.now p.locks p.sessions c.self.invariant)

pub returns : goal.returns
returns c =
    let p = c.self.inside in
    ap (shown p.locks) c.leave.ensures
    ∙ left-shown c.args.db c.args.queues.now p.locks p.sessions
    ∙ ap (λ v. left_by c.args.db c.args.queues.now v.sessions) c.self.view_is
