use Rattle.std.proofs.Common.{arith}
use Rattle.aq_run.proofs.Leaving.{leaves_uncalled}
use Rattle.aq_run.proofs.unbegun.unbegun.Goals as goal

pub returns-clause-disks : goal.returns-clause-disks
returns-clause-disks g c =
    let none = c.without_run.ensures.none in
    let status = c.without_run.ensures.status in
    leaves_uncalled g.D.Disk c.args.home c.args.away c.without_run.result (omega (arith, c.requires.some, status)) (omega (arith, c.requires.few, status)) none.home_is none.away_is
