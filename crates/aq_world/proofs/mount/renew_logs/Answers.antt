use Rattle.std.proofs.Common.{refl}
use Rattle.aq_world.proofs.Mounting.{away_unrenewed, home_unrenewed, unopened_so}
use Rattle.aq_world.proofs.mount.renew_logs.Goals as goal

pub returns-in-Err-clause-unopened : goal.returns-in-Err-clause-unopened
returns-in-Err-clause-unopened g c home away first second =
    let e = c.in-Err.fault in
    unopened_so g.D.Disk _ _ home away _ _ _ _ c.cause_of-cause.ensures.cause c.cause_of-cause.ensures.disk c.into_disk-away.ensures
    (home_unrenewed g.D.Disk home away c.args.home.1.tables c.args.home.0 first c.args.away.1.tables c.args.away.0 second e (c.in-Err.ensures.refused home first))

pub returns-in-Ok-renew-clause-mounted : goal.returns-in-Ok-renew-clause-mounted
returns-in-Ok-renew-clause-mounted g c home away first second = (c.in-Ok.ensures.mounted home first, c.in-Ok-renew.ensures.mounted away second)

pub returns-in-Err-renew-clause-unopened : goal.returns-in-Err-renew-clause-unopened
returns-in-Err-renew-clause-unopened g c home away first second =
    let e = c.in-Err-renew.fault in
    unopened_so g.D.Disk _ _ home away _ _ _ _ c.cause_of-cause-in-Err-renew.ensures.cause c.into_disk-home.ensures c.cause_of-cause-in-Err-renew.ensures.disk
    (away_unrenewed g.D.Disk home away c.args.home.1.tables c.args.home.0 first c.args.away.1.tables c.args.away.0 second _ _ (c.in-Ok.ensures.mounted home first) e (c.in-Err-renew.ensures.refused away second))
