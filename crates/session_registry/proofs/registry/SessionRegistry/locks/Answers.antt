use Rattle.std.proofs.Common.{sym, subst}
use Rattle.queue_rows.specs.Session.{AreMarks}
use Rattle.session_registry.specs.Locks.{locks_at}
use Rattle.session_registry.proofs.ShownSessions.{marks_stand}
use Rattle.session_registry.proofs.registry.SessionRegistry.locks.Goals as goal

pub returns : goal.returns
returns c =
    subst (λ locks. AreMarks c.args.db c.args.self.now.sessions locks) (sym c.at.ensures)
    (subst (λ v. AreMarks c.args.db v.sessions (locks_at c.args.db c.self.inside.locks)) c.self.view_is (marks_stand c.args.db c.self.inside.locks c.self.inside.sessions c.self.invariant))
