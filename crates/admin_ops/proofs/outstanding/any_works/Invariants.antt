use Rattle.std.proofs.Common.{◌≡◌}
use Rattle.admin_ops.specs.Affecting.{affecting}
use Rattle.admin_ops.specs.Shown.{works_by}
use Rattle.admin_ops.proofs.Walking.{works_from}
use Rattle.admin_ops.proofs.outstanding.any_works.Given as goal

-- a session works where one of those from here on does
abbrev pub invariant-loop-number : goal.invariant-loop-number
invariant-loop-number g l =
    let works = works_by (g.T.MessageTables.tables l.store) l.work (affecting l.affected) in
    works_from works l.work.locks.now l.work.sessions.now 0 ≡ works_from works l.work.locks.now l.work.sessions.now l.number
