use Rattle.std.proofs.Common.{◌≡◌, ◌∙◌, refl, sym, ap, subst}
use Rattle.commit_log.specs.CompactAnswer.{disk_in}
use Rattle.durable_state.specs.Compacting.{HasCompactCause, KeepBoth}
use Rattle.durable_state.specs.Held.{Held}
use Rattle.durable_state.proofs.Compaction.{away_cause, home_cause, keep_both}
use Rattle.durable_state.proofs.Stepping.{held_of}
use Rattle.durable_state.proofs.durable_state.DurableState.compact.Goals as goal

pub returns-in-Err-clause-keep : goal.returns-in-Err-clause-keep
returns-in-Err-clause-keep g c =
    let l = c.self.inside.logs in
    let v = held_of c.self.inside.state l in
    let opens : v.world.home.tables ≡ v.world.home.opening = subst (λ (o : Held _). o.world.home.tables ≡ o.world.home.opening) (sym c.self.view_is) c.requires.home_tables in
    subst (λ (o : Held _). KeepBoth g.D.Disk o c.cause_of-cause.result.1 c.into_disk-away.result) c.self.view_is
    (keep_both g.D.Disk v c.tables.result.now v.world.away.opening (c.tables.ensures ∙ c.store.ensures ∙ ap (λ d. d.tables) c.database.ensures ∙ opens) refl
    (disk_in c.in-Err.fault) l.away.disk c.cause_of-cause.result.1 c.into_disk-away.result c.cause_of-cause.ensures.disk c.into_disk-away.ensures c.in-Err.ensures.keeps (c.log_keeps.ensures v.world.away.opening l.away))

pub returns-in-Err-clause-cause : goal.returns-in-Err-clause-cause
returns-in-Err-clause-cause g c =
    let l = c.self.inside.logs in
    let cause = c.cause_of-cause.result.0 in
    let home = c.cause_of-cause.result.1 in
    let away = c.into_disk-away.result in
    subst (λ (o : Held _). HasCompactCause g.D.Disk cause o.home.disk o.away.disk home away) c.self.view_is
    (home_cause g.D.Disk cause l.home l.away home away c.in-Err.fault c.cause_of-cause.ensures.cause c.cause_of-cause.ensures.disk c.into_disk-away.ensures c.in-Err.ensures.fault c.in-Err.ensures.memory)

pub returns-clause-cause : goal.returns-clause-cause
returns-clause-cause g c =
    let l = c.self.inside.logs in
    let told = c.cause_of-cause-in-Err-compact in
    subst (λ (o : Held _). HasCompactCause g.D.Disk told.result.0 o.home.disk o.away.disk c.in-Ok.home told.result.1) c.self.view_is
    (away_cause g.D.Disk told.result.0 l.home l.away c.in-Ok.home told.result.1 c.in-Err-compact.fault told.ensures.cause told.ensures.disk c.in-Ok.ensures.compacted.fine c.in-Err-compact.ensures.fault
    c.in-Err-compact.ensures.memory)
