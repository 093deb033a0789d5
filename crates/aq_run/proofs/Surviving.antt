-- What a call leaves of its disks.
use Rattle.std.proofs.Common.{◌≡◌, ◌⊎◌, inl, inr, ◌≤◌, ℕ, true, false, List, [], Option, Some, None, Ok, length, refl, sym, ap, subst, ◌∙◌, arith}
use Rattle.std.specs.Prelude.{IsSome}
use Rattle.std.proofs.Math.Seq.{take-nil}
use Rattle.std.proofs.lemmas.List.{take_all}
use Rattle.aq_base.specs.declared.DbId.{DbId}
use Rattle.aq_disk.specs.declared.device.Disk.{Ghosts}
use Rattle.aq_base.specs.declared.DbId.TheVariants.{Home, Away}
use Rattle.queue_rows.specs.declared.tables.Tables.{Tables}
use Rattle.queue_rows.specs.declared.history.Entry.{Entry}
use Rattle.queue_rows.specs.declared.history.History.{History}
use Rattle.history_laws.specs.Made.{commits_of, after_commits, opening_of, tables_after}
use Rattle.history_laws.specs.Durability.{made, durable}
use Rattle.redo_journal.specs.Journaled.{Journaled}
use Rattle.redo_journal.specs.Runs.{IsDiskSettled}
use Rattle.redo_records.specs.Recovered.{recovered}
use Rattle.aq_world.specs.Logged.{AreLoggable}
use Rattle.aq_world.specs.Crash.{Run, RecoversFirst, SurvivesCrash}
use Rattle.aq_world.specs.Entries.{BeginsAs}
use Rattle.aq_world.specs.Held.{Held}
use Rattle.aq_world.specs.Survival.{run_at, LogsRun, SurvivesAt}
use Rattle.aq_world.specs.Recovery.{RecoversTo, KeepsRecovered}
use Rattle.aq_run.specs.Disks.{run_of, SurvivesCall, LeavesWhole}

-- ---- the run and its history

pub run_is : {D : Type 0} (db : DbId) (start : ℕ) (v : Held D) (h : History) → BeginsAs v.world h → h.entries ≡ v.entries → run_at db start v ≡ run_of db start h
run_is Home start v h b e =
    ap (λ (t : Tables). run_with t) (sym b.home_is) ∙ ap (λ es. record { db = Home; opening = h.home; start = start; entries = es }) (sym e)
  where
    run_with : Tables → Run
    run_with t = record { db = Home; opening = t; start = start; entries = v.entries }
run_is Away start v h b e =
    ap (λ (t : Tables). run_with t) (sym b.away_is) ∙ ap (λ es. record { db = Away; opening = h.away; start = start; entries = es }) (sym e)
  where
    run_with : Tables → Run
    run_with t = record { db = Away; opening = t; start = start; entries = v.entries }

-- ---- what is recovered

-- where nothing was made, the opening is
none_recovered : (db : DbId) (opening : Tables) (image : List ℕ) → RecoversFirst opening (commits_of db []) (durable db []) (made db []) image → recovered image ≡ Ok opening
unfolding after_commits
none_recovered db opening image x = subst (λ cs. recovered image ≡ Ok (after_commits opening cs)) (take-nil x.k) x.recovers

-- where all that was made is durable, all of it is
all_recovered : (db : DbId) (h : History) (image : List ℕ) → made db h.entries ≤ durable db h.entries
    → RecoversFirst (opening_of db h) (commits_of db h.entries) (durable db h.entries) (made db h.entries) image → recovered image ≡ Ok (tables_after db h)
all_recovered db h image all x =
    let least = x.at_least in
    let many : length (commits_of db h.entries) ≤ x.k = omega (arith, all, least) in
    subst (λ cs. recovered image ≡ Ok (after_commits (opening_of db h) cs)) (take_all x.k (commits_of db h.entries) many) x.recovers

-- ---- failures

pub not_failed : (o : Option ℕ) → (IsSome o → ⊥) → o ≡ None
not_failed None never = refl
not_failed (Some call) never = absurd (never refl)

none_failed : {P : Type 0} (o : Option ℕ) → o ≡ None → IsSome o → P
none_failed None e is = absurd (let no : false ≡ true = is in cc)
none_failed (Some call) e is = absurd (let no : Some call ≡ None = e in cc)

module _ {D : Type 0} (device : Ghosts D) where
  -- ---- a crash

  pub survives_call : (db : DbId) (disk : D) (r : Run) (j : Journaled D) (h : History) → r ≡ run_of db (device.calls disk) h → SurvivesAt device.seen device.is_image device.calls disk r j
      → AreLoggable (opening_of db h) (commits_of db h.entries) → SurvivesCall device db disk j.disk h
  survives_call db disk r j h e s logs = λ settled bytes told.
      (subst (λ x. SurvivesAt device.seen device.is_image device.calls disk x j) e s settled bytes told logs).survives

  -- what reached no entry
  pub kept_call : (db : DbId) (disk new : D) (h : History) → SurvivesCall device db disk new h → RecoversTo device.seen disk (opening_of db h) → h.entries ≡ [] → KeepsRecovered device.seen device.is_image device.calls disk new
  kept_call db disk new h s recovers none = λ settled bytes told call from to image left.
      let quiet : SurvivesCrash (record { db = db; opening = opening_of db h; start = device.calls disk; entries = [] }) (device.calls new) (device.is_image new) =
      subst (λ es. SurvivesCrash (record { db = db; opening = opening_of db h; start = device.calls disk; entries = es }) (device.calls new) (device.is_image new)) none (s settled bytes told) in
      none_recovered db (opening_of db h) image (quiet.behind call from to image left) ∙ sym (recovers bytes told)

  -- nor what made none
  pub kept_run : (db : DbId) (disk : D) (opening : Tables) (entries : List Entry) (j : Journaled D) → SurvivesAt device.seen device.is_image device.calls disk (record { db = db; opening = opening; start = device.calls disk; entries = entries }) j
      → entries ≡ [] → RecoversTo device.seen disk opening → KeepsRecovered device.seen device.is_image device.calls disk j.disk
  kept_run db disk opening entries j s none recovers = λ settled bytes told call from to image left.
      let quiet : SurvivesAt device.seen device.is_image device.calls disk (record { db = db; opening = opening; start = device.calls disk; entries = [] }) j =
      subst (λ es. SurvivesAt device.seen device.is_image device.calls disk (record { db = db; opening = opening; start = device.calls disk; entries = es }) j) none s in
      let stands = quiet settled bytes told (record { fit = refl; spellable = tt }) in
      none_recovered db opening image (stands.survives.behind call from to image left) ∙ sym (recovers bytes told)

  -- a disk that was not called
  pub kept_same : (disk new : D) → new ≡ disk → KeepsRecovered device.seen device.is_image device.calls disk new
  kept_same disk new e = subst (KeepsRecovered device.seen device.is_image device.calls disk) (sym e) (λ settled bytes told call from to image left.
      let here : call ≡ device.calls disk = omega (arith, from, to) in
      ap recovered (settled bytes told image (subst (λ n. device.is_image disk n image) here left)))

  -- ---- the end of a whole run

  at_rest : (db : DbId) (disk : D) (h : History) (j : Journaled D) → j.failed_at ≡ None → (IsSome j.failed_at ⊎ LogsRun device.seen device.is_image device.calls (run_of db (device.calls disk) h) j) → IsDiskSettled device.seen device.is_image device.calls j.disk
  at_rest db disk h j fine (inl failed) = none_failed j.failed_at fine failed
  at_rest db disk h j fine (inr logs) = λ bytes told. (logs.logs.rests.disk bytes told).settled

  pub leaves_whole : ((d : D) (bytes : List ℕ) → device.seen d ≡ Some bytes → device.is_image d (device.calls d) bytes) → (db : DbId) (disk : D) (r : Run) (j : Journaled D) (h : History) → r ≡ run_of db (device.calls disk) h
      → SurvivesAt device.seen device.is_image device.calls disk r j → AreLoggable (opening_of db h) (commits_of db h.entries) → j.failed_at ≡ None → made db h.entries ≤ durable db h.entries
      → LeavesWhole device db disk j.disk h
  leaves_whole reads db disk r j h e s logs fine all = λ settled bytes told.
      let stands = subst (λ x. SurvivesAt device.seen device.is_image device.calls disk x j) e s settled bytes told logs in
      record {
        settled = at_rest db disk h j fine stands.logs;
        recovers = λ now reading.
            let last = stands.survives.order.last in
            all_recovered db h now all (stands.survives.behind (device.calls j.disk) last (omega arith) now (reads j.disk now reading));
      }
