use Rattle.redo_journal.proofs.Moments.{if_ok_more}
use Rattle.commit_log.specs.Mounting.{IsMounted, IsRead}
use Rattle.commit_log.proofs.log.CommitLog.mount.Goals as goal

pub returns-clause-mounted : goal.returns-clause-mounted
returns-clause-mounted g c =
    let read = c.in-Ok.read in
    if_ok_more c.renew.result (λ r. (disk : g.row.D.Denot) → IsRead g.D.Disk disk read.1.tables read.0 → IsMounted g.D.Disk disk r.1.tables r.0) (λ r. IsMounted g.D.Disk c.args.disk r.1.tables r.0)
    (λ r mounted. mounted c.args.disk c.in-Ok.ensures.read) c.renew.ensures.mounted
