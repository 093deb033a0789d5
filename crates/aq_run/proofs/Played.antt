-- What was played over the disks.
use Rattle.std.proofs.Common.{◌≡◌, inl, inr, ◌≤◌, ℕ, List, Option, Some, None, Result, Ok, Err, refl, sym, subst, map, arith}
use Rattle.std.specs.Prelude.{OnOk, OnErr, true}
use Rattle.aq_base.specs.declared.DbId.{DbId}
use Rattle.aq_disk.specs.declared.device.Disk.{Ghosts}
use Rattle.aq_base.specs.declared.DbId.TheVariants.{Home, Away}
use Rattle.queue_rows.specs.World.{uncounted}
use Rattle.queue_rows.specs.declared.history.History.{History}
use Rattle.queue_rows.specs.declared.history.SessionScript.{SessionScript}
use Rattle.history_laws.specs.WorldLaws.{MayBegin}
use Rattle.history_laws.specs.Made.{commits_of, opening_of}
use Rattle.history_laws.specs.Durability.{made, durable}
use Rattle.aq_world.specs.RecoveredSound.{IsSound}
use Rattle.queue_rows.specs.Legal.{IsLegalHistory}
use Rattle.queue_rows.specs.Serial.{AreSerial, IsSerial, IsSerialFront, IsOnTheWay}
use Rattle.run_turns.specs.Laws.{IsAllDone, SerialCallsAll, SerialFrontIsLegal, SerialIsDone, SerialIsLegal, LegalCallsInOrder}
use Rattle.run_fates.specs.DurableRun.{SerialIsDurable}
use Rattle.run_spellings.specs.SpellableRun.{HasSpellableRows, have_text_rules}
use Rattle.run_spellings.specs.SpellingLaws.{LegalCommitsSpell, SoundIsSpellable}
use Rattle.aq_world.specs.Entries.{BeginsAs}
use Rattle.aq_world.specs.Logged.{AreLoggable}
use Rattle.aq_world.specs.RunGoing.{Goes}
use Rattle.aq_world.specs.Held.{Held, HasFailed}
use Rattle.aq_world.specs.Survival.{Survives}
use Rattle.aq_world.specs.Brief.{AreBrief}
use Rattle.aq_world.specs.Broken.{Broken}
use Rattle.aq_world.specs.Broken.TheVariants as breaks
use Rattle.aq_world.specs.Recovery.{RecoversTo}
use Rattle.aq_world.specs.Turning.{IsOfRun}
use Rattle.aq_world.specs.Recovery.{FailsEither, FailsNeither}
use Rattle.aq_run.specs.Disks.{SurvivesCall, LeavesWhole}
use Rattle.aq_run.specs.Passing.{EndsBy}
use Rattle.aq_run.specs.Histories.{LegalHolds}
use Rattle.aq_run.specs.Played.{PlaysOver, end_of}
use Rattle.aq_run.specs.declared.play.RunEnd.{RunEnd}
use Rattle.aq_run.specs.declared.play.RunEnd.TheVariants as ends
use Rattle.aq_run.proofs.Playing.{Opens, home_is, away_is, scripts_are, may_so, whole_run, part_run, serial_front}
use Rattle.aq_run.proofs.Surviving.{run_is, survives_call, kept_call, leaves_whole, not_failed}

-- ---- by how it ended

-- a run that is whole answered Ok
when_whole : {T P : Type 0} (r : Result T Broken) → OnOk r P → end_of r ≡ ends.Whole → P
when_whole (Ok x) p e = p
when_whole (Err breaks.Halted) p e = absurd (let no : ends.Halted ≡ ends.Whole = e in cc)
when_whole (Err breaks.Memory) p e = absurd (let no : ends.Memory ≡ ends.Whole = e in cc)

when_fine : {T D : Type 0} (r : Result T Broken) (old new : Held D) → EndsBy r old new → end_of r ≡ ends.Whole → HasFailed new → HasFailed old
when_fine (Ok x) old new by e = by
when_fine (Err breaks.Halted) old new by e = absurd (let no : ends.Halted ≡ ends.Whole = e in cc)
when_fine (Err breaks.Memory) old new by e = absurd (let no : ends.Memory ≡ ends.Whole = e in cc)

when_halted : {T D : Type 0} (r : Result T Broken) (old new : Held D) → EndsBy r old new → end_of r ≡ ends.Halted → HasFailed new
when_halted (Ok x) old new by e = absurd (let no : ends.Whole ≡ ends.Halted = e in cc)
when_halted (Err breaks.Halted) old new by e = by refl
when_halted (Err breaks.Memory) old new by e = absurd (let no : ends.Memory ≡ ends.Halted = e in cc)

-- whole or not, it is a first part
either : {T A B P : Type 0} (r : Result T Broken) → OnOk r A → OnErr r B → (A → P) → (B → P) → P
either (Ok x) a b f g = f a
either (Err e) a b f g = g b

-- ---- what holds of what was played

module _ {D : Type 0} (device : Ghosts D) (home away : D) (scripts : List SessionScript) (w v : Held D) (h : History) where
  -- the world was mounted over the disks, went on, and its history is this
  pub record IsPlayed : Type 0 where
    pub opens : Opens scripts w.world
    pub home_is : RecoversTo device.seen home w.world.home.opening
    pub away_is : RecoversTo device.seen away w.world.away.opening
    pub home_sound : IsSound w.world.home.opening
    pub away_sound : IsSound w.world.away.opening
    pub begun : Survives device.seen device.is_image device.calls device.faults (record { home = home; away = away }) w
    pub unfailed : HasFailed w → ⊥
    pub run : IsOfRun w.world v.world
    pub goes : Goes device.seen device.is_image device.calls device.faults w v
    pub entries : h.entries ≡ v.entries
    pub uncounted_so : map uncounted h.entries ≡ v.world.entries
    pub begins : BeginsAs v.world h
    pub begun_so : MayBegin v.world.home.opening v.world.away.opening v.world.scripts
    pub texts : have_text_rules scripts ≡ true
    pub brief : AreBrief h.entries

  module _ (p : IsPlayed) where
    may : MayBegin h.home h.away scripts
    may = may_so scripts w.world v.world h p.opens p.run p.begins p.begun_so

    opens_home : RecoversTo device.seen home h.home
    opens_home = subst (RecoversTo device.seen home) (sym (home_is scripts w.world v.world h p.opens p.run p.begins)) p.home_is

    opens_away : RecoversTo device.seen away h.away
    opens_away = subst (RecoversTo device.seen away) (sym (away_is scripts w.world v.world h p.opens p.run p.begins)) p.away_is

    loggable : LegalHolds → SoundIsSpellable → LegalCommitsSpell → IsLegalHistory h.home h.away scripts h → (db : DbId) → AreLoggable (opening_of db h) (commits_of db h.entries)
    loggable holds sound spells legal db = record {
      fit = (holds h.home h.away scripts h may legal p.brief).fit db;
      spellable = spells h.home h.away scripts h may (record {
        home_rows = subst HasSpellableRows (sym (home_is scripts w.world v.world h p.opens p.run p.begins)) (sound w.world.home.opening p.home_sound);
        away_rows = subst HasSpellableRows (sym (away_is scripts w.world v.world h p.opens p.run p.begins)) (sound w.world.away.opening p.away_sound);
        rules = p.texts;
      }) legal db;
    }

    survives : Survives device.seen device.is_image device.calls device.faults (record { home = home; away = away }) v
    survives = p.goes.on (record { home = home; away = away }) p.begun

    -- ---- faults

    halted_so : HasFailed v → FailsEither device.faults home away v.home.disk v.away.disk
    halted_so (inl failed) = inl (survives.home_faults.rose failed)
    halted_so (inr failed) = inr (survives.away_faults.rose failed)

    module _ (never : HasFailed v → ⊥) where
      home_unfailed : v.home.failed_at ≡ None
      home_unfailed = not_failed v.home.failed_at (λ failed. never (inl failed))

      away_unfailed : v.away.failed_at ≡ None
      away_unfailed = not_failed v.away.failed_at (λ failed. never (inr failed))

      fine_so : FailsNeither device.faults home away v.home.disk v.away.disk
      fine_so = (survives.home_faults.fine home_unfailed, survives.away_faults.fine away_unfailed)

    module _ (logs : (db : DbId) → AreLoggable (opening_of db h) (commits_of db h.entries)) where
      home_survives : SurvivesCall device Home home v.home.disk h
      home_survives = survives_call device Home home _ v.home h (run_is Home (device.calls home) v h p.begins p.entries) survives.home (logs Home)

      away_survives : SurvivesCall device Away away v.away.disk h
      away_survives = survives_call device Away away _ v.away h (run_is Away (device.calls away) v h p.begins p.entries) survives.away (logs Away)

      module _ (reads : (d : D) (bytes : List ℕ) → device.seen d ≡ Some bytes → device.is_image d (device.calls d) bytes) (never : HasFailed v → ⊥) (all : (db : DbId) → made db h.entries ≤ durable db h.entries) where
        home_leaves : LeavesWhole device Home home v.home.disk h
        home_leaves = leaves_whole device reads Home home _ v.home h (run_is Home (device.calls home) v h p.begins p.entries) survives.home (logs Home) (home_unfailed never) (all Home)

        away_leaves : LeavesWhole device Away away v.away.disk h
        away_leaves = leaves_whole device reads Away away _ v.away h (run_is Away (device.calls away) v h p.begins p.entries) survives.away (logs Away) (away_unfailed never) (all Away)

    -- ---- all of it

    module _ {T : Type 0} (r : Result T Broken) (has : OnOk r (AreSerial w.world v.world.entries)) (way : OnErr r (IsOnTheWay w.world v.world.entries)) (by : EndsBy r w v) where
      serial_whole : end_of r ≡ ends.Whole → IsSerial h.home h.away scripts h
      serial_whole e = whole_run scripts w.world v.world h p.opens p.run p.begins (when_whole r has e) p.uncounted_so

      front_of : IsSerialFront h.home h.away scripts h
      front_of = either r has way
          (λ x. serial_front h.home h.away scripts h (whole_run scripts w.world v.world h p.opens p.run p.begins x p.uncounted_so))
          (λ x. part_run scripts w.world v.world h p.opens p.run p.begins x p.uncounted_so)

      never_failed : end_of r ≡ ends.Whole → HasFailed v → ⊥
      never_failed e failed = p.unfailed (when_fine r w v by e failed)

      all_durable : (db : DbId) → durable db h.entries ≡ made db h.entries → made db h.entries ≤ durable db h.entries
      all_durable db e = omega (arith, e)

      pub plays : ((d : D) (bytes : List ℕ) → device.seen d ≡ Some bytes → device.is_image d (device.calls d) bytes)
          → SerialFrontIsLegal → SerialIsLegal → SerialIsDone → SerialCallsAll → LegalCallsInOrder → LegalHolds → SoundIsSpellable → LegalCommitsSpell → SerialIsDurable
          → PlaysOver device home away scripts (record { history = h; end = end_of r; home = v.home.disk; away = v.away.disk })
      plays reads front_legal whole_legal all_done all_called in_order holds sound spells durably =
          let legal = front_legal h.home h.away scripts h may front_of in
          let logs = loggable holds sound spells legal in
          record {
            run = λ e. record {
              home_is = opens_home;
              away_is = opens_away;
              serial = serial_whole e;
              legal = whole_legal h.home h.away scripts h may (serial_whole e);
              calls = all_called h.home h.away scripts h (serial_whole e);
            };
            front = record {
              home_is = opens_home;
              away_is = opens_away;
              serial = front_of;
              legal = legal;
              calls = in_order h.home h.away scripts h legal;
            };
            holds = holds h.home h.away scripts h may legal p.brief;
            done = λ e. record {
              done = subst (λ given. IsAllDone h.home h.away given h) (sym (scripts_are scripts w.world v.world h p.opens p.run p.begins)) (all_done h.home h.away scripts h may (serial_whole e));
              durable_all = durably h.home h.away scripts h may (serial_whole e);
            };
            home_crash = home_survives logs;
            away_crash = away_survives logs;
            home_kept = kept_call device Home home v.home.disk h (home_survives logs) opens_home;
            away_kept = kept_call device Away away v.away.disk h (away_survives logs) opens_away;
            halted = λ e. halted_so (when_halted r w v by e);
            fine = λ e. fine_so (never_failed e);
            home_whole = λ e. home_leaves logs reads (never_failed e) (λ db. all_durable db (durably h.home h.away scripts h may (serial_whole e) db));
            away_whole = λ e. away_leaves logs reads (never_failed e) (λ db. all_durable db (durably h.home h.away scripts h may (serial_whole e) db));
          }

-- what is played under other names of its parts
pub played_as : {D : Type 0} (device : Ghosts D) (home away : D) (scripts : List SessionScript) (h : History) (e end : RunEnd) (a b home_after away_after : D)
    → PlaysOver device home away scripts (record { history = h; end = e; home = a; away = b }) → end ≡ e → home_after ≡ a → away_after ≡ b
    → PlaysOver device home away scripts (record { history = h; end = end; home = home_after; away = away_after })
played_as device home away scripts h e end a b home_after away_after p end_is home_so away_so =
    subst (λ x. PlaysOver device home away scripts (record { history = h; end = end; home = home_after; away = x })) (sym away_so)
    (subst (λ x. PlaysOver device home away scripts (record { history = h; end = end; home = x; away = b })) (sym home_so)
    (subst (λ x. PlaysOver device home away scripts (record { history = h; end = x; home = a; away = b })) (sym end_is) p))
