use Rattle.std.proofs.Common.{◌≡◌, ◌⊎◌, inl, inr, ℕ, List, sym, subst, arith}
use Rattle.aq_run.specs.Written.{Writes}
use Rattle.queue_rows.specs.declared.tables.Tables.{Tables}
use Rattle.history_laws.specs.ValidWorld.{AreScripts}
use Rattle.aq_run.specs.Dumping.{dump_text}
use Rattle.aq_run.specs.Outcomes.{IsRun}
use Rattle.aq_run.proofs.Leaving.{leaves_mounted, mounted_home, mounted_away}
use Rattle.aq_run.proofs.Playing.{no_scripts, home-begun, away-begun}
use Rattle.aq_run.proofs.dump.dump.Goals as goal

pub mount_serial-requires : goal.mount_serial-requires
mount_serial-requires g c = subst AreScripts (sym c.new.ensures) no_scripts

texts_so : (P : List ℕ → Type 0) (t u v w : Tables) → t ≡ v → u ≡ w → P (dump_text t u) → P (dump_text v w)
texts_so P t u v w a b p = subst (λ x. P (dump_text v x)) b (subst (λ x. P (dump_text x u)) a p)

not_five : (s : ℕ) → IsRun s ⊎ (s ≡ 4) → s ≡ 5 → ⊥
not_five s known five = omega (arith, known, five)

pub returns-in-Ok-clause-answers : goal.returns-in-Ok-clause-answers
returns-in-Ok-clause-answers g c =
    let mounted = c.in-Ok.ensures in
    let held = c.in-Ok.world.held in
    let w = held.world in
    let shown = c.shown.ensures in
    let o = c.shown.result in
    inr (record {
      status = shown.known;
      home_tables = w.home.opening;
      away_tables = w.away.opening;
      home_is = mounted.home;
      away_is = mounted.away;
      written = texts_so (λ text. Writes g.O.Sink.taken g.O.Sink.faults c.args.out.now c.shown.new.out text o.status) w.home.tables w.away.tables w.home.opening w.away.opening (home-begun _ w mounted.opens) (away-begun _ w mounted.opens) shown.writes;
      nothing = shown.nothing;
      no_history = shown.none.history;
      home_disk = mounted_home g.D.Disk c.args.home c.args.away held mounted.mounted o shown.none.home_is shown.none.away_is;
      away_disk = mounted_away g.D.Disk c.args.home c.args.away held mounted.mounted o shown.none.home_is shown.none.away_is;
    })

pub returns-in-Ok-clause-disks : goal.returns-in-Ok-clause-disks
returns-in-Ok-clause-disks g c =
    let mounted = c.in-Ok.ensures in
    let shown = c.shown.ensures in
    leaves_mounted g.D.Disk c.args.home c.args.away c.in-Ok.world.held mounted.mounted c.shown.result shown.none.home_is shown.none.away_is
    (not_five c.shown.result.status shown.known)

pub returns-in-Err-clause-answers : goal.returns-in-Err-clause-answers
returns-in-Err-clause-answers g c =
    inl (c.unmounted.ensures.answers c.args.home c.args.away c.in-Err.ensures.unopened)

pub returns-in-Err-clause-disks : goal.returns-in-Err-clause-disks
returns-in-Err-clause-disks g c =
    c.unmounted.ensures.disks c.args.home c.args.away c.in-Err.ensures.unopened
