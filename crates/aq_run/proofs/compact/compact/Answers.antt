use Rattle.std.proofs.Common.{inl, inr, refl, sym, subst}
use Rattle.history_laws.specs.ValidWorld.{AreScripts}
use Rattle.aq_run.specs.Compacting.{IsCompactedOf}
use Rattle.aq_run.proofs.Compacted.{home_keeps, away_keeps, compacted_so, leaves_compacted, leaves_uncompacted, status_so}
use Rattle.aq_run.proofs.Playing.{no_scripts}
use Rattle.aq_run.proofs.compact.compact.Goals as goal

pub mount_serial-requires : goal.mount_serial-requires
mount_serial-requires g c = subst AreScripts (sym c.new.ensures) no_scripts

pub returns-in-Ok-compact-clause-answers : goal.returns-in-Ok-compact-clause-answers
returns-in-Ok-compact-clause-answers g c =
    let m = c.in-Ok.ensures.mounted in
    let w = c.in-Ok.world.held in
    let done = c.in-Ok-compact.done in
    let is = c.in-Ok-compact.ensures in
    let t = c.told.ensures in
    inr (
      record {
        no_history = t.none.history;
        home_kept = home_keeps g.D.Disk c.args.home c.args.away w m done.home done.away is.keep c.told.result t.none.home_is t.none.away_is;
        away_kept = away_keeps g.D.Disk c.args.home c.args.away w m done.home done.away is.keep c.told.result t.none.home_is t.none.away_is;
      },
      inr (record {
        status = t.known;
        home_tables = w.world.home.opening;
        away_tables = w.world.away.opening;
        home_frames = done.home_frames;
        away_frames = done.away_frames;
        home_is = subst (λ x. IsCompactedOf g.D.Disk w.world.home.opening done.home_frames c.args.home x) (sym t.none.home_is) (compacted_so g.D.Disk w.world.home.opening w.home c.args.home done.home m.home_log done.home_frames is.frames.0 is.compacted.home_log);
        away_is = subst (λ x. IsCompactedOf g.D.Disk w.world.away.opening done.away_frames c.args.away x) (sym t.none.away_is) (compacted_so g.D.Disk w.world.away.opening w.away c.args.away done.away m.away_log done.away_frames is.frames.1 is.compacted.away_log);
        written = t.writes;
        nothing = t.nothing;
      }),
    )

pub returns-in-Ok-compact-clause-disks : goal.returns-in-Ok-compact-clause-disks
returns-in-Ok-compact-clause-disks g c =
    let done = c.in-Ok-compact.done in
    let is = c.in-Ok-compact.ensures in
    let t = c.told.ensures in
    leaves_compacted g.D.Disk c.args.home c.args.away c.in-Ok.world.held c.in-Ok.ensures.mounted done.home done.away is.keep c.told.result t.none.home_is t.none.away_is t.known is.compacted.home_log is.compacted.away_log

pub returns-in-Err-compact-clause-answers : goal.returns-in-Err-compact-clause-answers
returns-in-Err-compact-clause-answers g c =
    let left = c.in-Err-compact.left in
    let none = c.uncompacted.ensures.none in
    inr (
      record {
        no_history = none.history;
        home_kept = home_keeps g.D.Disk c.args.home c.args.away c.in-Ok.world.held c.in-Ok.ensures.mounted left.home left.away c.in-Err-compact.ensures.keep c.uncompacted.result none.home_is none.away_is;
        away_kept = away_keeps g.D.Disk c.args.home c.args.away c.in-Ok.world.held c.in-Ok.ensures.mounted left.home left.away c.in-Err-compact.ensures.keep c.uncompacted.result none.home_is none.away_is;
      },
      inl (record { status = status_so left.cause c.uncompacted.result.status c.uncompacted.ensures.status; nothing = refl }),
    )

pub returns-in-Err-compact-clause-disks : goal.returns-in-Err-compact-clause-disks
returns-in-Err-compact-clause-disks g c =
    let left = c.in-Err-compact.left in
    let none = c.uncompacted.ensures.none in
    leaves_uncompacted g.D.Disk c.args.home c.args.away c.in-Ok.world.held c.in-Ok.ensures.mounted left.home left.away c.in-Err-compact.ensures.keep c.uncompacted.result none.home_is none.away_is left.cause c.in-Err-compact.ensures.cause c.uncompacted.ensures.status
