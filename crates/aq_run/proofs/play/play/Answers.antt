use Rattle.aq_run.proofs.Clocking.{some_given}
use Rattle.aq_run.proofs.Playing.{readings-begun, at-begun, told-begun, scripts-begun}
use Rattle.aq_run.specs.Disks.{IsUnmounted}
use Rattle.aq_run.proofs.Played.{plays, played_as}
use Rattle.aq_run.proofs.Results.{err_of}
use Rattle.aq_run.proofs.play.play.Goals as goal

pub mount_serial-requires : goal.mount_serial-requires
mount_serial-requires g c = record { within = c.requires.within; ordered = c.requires.ordered }

pub run-requires-clause-readings : goal.run-requires-clause-readings
run-requires-clause-readings g c = readings-begun c.args.scripts c.in_ok-world.world.held.world c.in_ok-world.ensures.opens

pub run-requires-clause-at : goal.run-requires-clause-at
run-requires-clause-at g c = at-begun c.args.scripts c.in_ok-world.world.held.world c.in_ok-world.ensures.opens

pub run-requires-clause-told : goal.run-requires-clause-told
run-requires-clause-told g c = told-begun c.args.scripts c.in_ok-world.world.held.world c.in_ok-world.ensures.opens

pub run-requires-clause-scripts : goal.run-requires-clause-scripts
run-requires-clause-scripts g c = scripts-begun c.args.scripts c.in_ok-world.world.held.world c.in_ok-world.ensures.opens (record { within = c.requires.within; ordered = c.requires.ordered })

pub run-requires-clause-clock : goal.run-requires-clause-clock
run-requires-clause-clock g c = record { planned = c.in_ok-world.ensures.plan; tells = some_given _ c.in_ok-world.ensures.given }

pub returns-clause-played : goal.returns-clause-played
returns-clause-played g c =
    let w = c.in_ok-world.world.held in
    let v = c.run.new.world.held in
    let f = c.finish-history.result in
    played_as g.D.Disk c.args.home c.args.away c.args.scripts f.history _ c.end_of-end.result _ _ f.home f.away
    (plays g.D.Disk c.args.home c.args.away c.args.scripts w v f.history
    (record {
      opens = c.in_ok-world.ensures.opens;
      home_is = c.in_ok-world.ensures.home;
      away_is = c.in_ok-world.ensures.away;
      home_sound = c.in_ok-world.ensures.sound.0;
      away_sound = c.in_ok-world.ensures.sound.1;
      begun = c.in_ok-world.ensures.begun;
      unfailed = c.in_ok-world.ensures.unfailed;
      run = c.run.ensures.passes.run;
      goes = c.run.ensures.passes.disks;
      entries = c.finish-history.ensures.entries;
      uncounted_so = c.finish-history.ensures.uncounted;
      begins = c.finish-history.ensures.begins;
      begun_so = c.finish-history.ensures.running.running.begins;
      texts = c.rules_are_texts.ensures;
      brief = c.finish-history.ensures.brief;
    })
    c.run.result c.run.ensures.whole c.run.ensures.front c.run.ensures.ends g.met.D.Disk.reads_an_image
    c.serial_front_is_legal.ensures c.serial_is_legal.ensures c.serial_is_done.ensures c.serial_calls_all.ensures c.legal_calls_in_order.ensures c.legal_holds.ensures c.sound_is_spellable.ensures c.legal_commits_spell.ensures c.serial_is_durable.ensures)
    c.end_of-end.ensures c.finish-history.ensures.home c.finish-history.ensures.away

pub returns-in_err-world-clause-unmounted : goal.returns-in_err-world-clause-unmounted
returns-in_err-world-clause-unmounted g c =
    err_of (IsUnmounted g.D.Disk c.args.home c.args.away) c.from_residual.result c.in_err-world.field-0.0 c.from_residual.ensures.1
    c.in_err-world.ensures.unopened
