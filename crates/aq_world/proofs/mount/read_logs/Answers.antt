use Rattle.std.proofs.Common.{refl}
use Rattle.aq_world.proofs.Mounting.{away_unread, home_unread, unopened_so}
use Rattle.aq_world.proofs.mount.read_logs.Goals as goal

pub returns-in-Err-clause-unopened : goal.returns-in-Err-clause-unopened
returns-in-Err-clause-unopened g c =
    let e = c.in-Err.fault in
    unopened_so g.D.Disk _ _ c.args.home c.args.away _ _ _ _ c.cause_of-cause.ensures.cause c.cause_of-cause.ensures.disk refl (home_unread g.D.Disk c.args.home c.args.away e c.in-Err.ensures.refused)

pub returns-in-Err-read_log-clause-unopened : goal.returns-in-Err-read_log-clause-unopened
returns-in-Err-read_log-clause-unopened g c =
    let e = c.in-Err-read_log.fault in
    let home = c.in-Ok.read in
    unopened_so g.D.Disk _ _ c.args.home c.args.away _ _ _ _ c.cause_of-cause-in-Err-read_log.ensures.cause c.into_disk-home.ensures c.cause_of-cause-in-Err-read_log.ensures.disk
    (away_unread g.D.Disk c.args.home c.args.away home.1.tables home.0 c.in-Ok.ensures.read e c.in-Err-read_log.ensures.refused)
