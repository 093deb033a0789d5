use Rattle.redo_journal.proofs.Moments.{if_ok_more}
use Rattle.durable_state.specs.LogMounting.{IsMounted, IsRead}
use Rattle.aq_world.specs.Mounting.{IsUnopened}
use Rattle.aq_world.proofs.Mounting.{if_err_more, renewable}
use Rattle.aq_world.proofs.mount.mount_logs.Goals as goal

pub renew_logs-requires-clause-home : goal.renew_logs-requires-clause-home
renew_logs-requires-clause-home g c = renewable g.D.Disk c.args.home _ _ c.in_ok-home.ensures.home

pub renew_logs-requires-clause-away : goal.renew_logs-requires-clause-away
renew_logs-requires-clause-away g c = renewable g.D.Disk c.args.away _ _ c.in_ok-home.ensures.away

pub returns-clause-home : goal.returns-clause-home
returns-clause-home g c =
    if_ok_more c.renew_logs.result _ (λ m. IsMounted g.D.Disk c.args.home m.0.1.tables m.0.0) (λ m mounted. (mounted c.args.home c.args.away c.in_ok-home.ensures.home c.in_ok-home.ensures.away).0) c.renew_logs.ensures.mounted

pub returns-clause-away : goal.returns-clause-away
returns-clause-away g c =
    if_ok_more c.renew_logs.result _ (λ m. IsMounted g.D.Disk c.args.away m.1.1.tables m.1.0) (λ m mounted. (mounted c.args.home c.args.away c.in_ok-home.ensures.home c.in_ok-home.ensures.away).1) c.renew_logs.ensures.mounted

pub returns-clause-unopened : goal.returns-clause-unopened
returns-clause-unopened g c =
    if_err_more c.renew_logs.result _ (λ e. IsUnopened g.D.Disk e.cause c.args.home c.args.away e.home e.away) (λ e refused. refused c.args.home c.args.away c.in_ok-home.ensures.home c.in_ok-home.ensures.away) c.renew_logs.ensures.unopened
