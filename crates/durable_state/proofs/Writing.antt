-- A run goes on with a flush.
use Rattle.std.proofs.Common.{◌≡◌, ◌⊎◌, inl, inr, ◌≤◌, ◌++◌, ℕ, List, [], ◌∷◌, length, take, Option, Some, None, IsSome, Result, refl, sym, ap, ◌∙◌, subst, arith}
use Rattle.std.specs.Prelude.{Ok, Err, OnOk, OnErr}
use Rattle.std.proofs.lemmas.List.{append-nil}
use Rattle.aq_disk.specs.Causes.{HasCause, Rose}
use Rattle.aq_disk.specs.Disk.{EachImage, KeepsEarlier}
use Rattle.history_laws.specs.Made.{after_commits, commits_of}
use Rattle.queue_rows.specs.declared.tables.Tables.{Tables}
use Rattle.queue_rows.specs.declared.change.Commit.{Commit}
use Rattle.queue_rows.specs.declared.history.Entry.{Entry}
use Rattle.redo_journal.specs.Journaled.{Journaled}
use Rattle.crash_laws.specs.Crash.{Run, Recovers, RecoversEither, SurvivesCrash, with_entry}
use Rattle.crash_laws.specs.CrashLaws.{CallsPass, FlushComes, FlushLeaves}
use Rattle.crash_laws.proofs.Splitting.{commits-append, durable_all}
use Rattle.commit_log.specs.Logged.{AreLoggable, Logs}
use Rattle.durable_state.specs.Survival.{AreFaults, LogsRun, Stands, SurvivesAt}
use Rattle.durable_state.specs.Writing.{Flushes, IsFlushEntry, Writes}
use Rattle.durable_state.proofs.Logging.{makes_none}

pub not_failed : {P : Type 0} (o : Option ℕ) → o ≡ None → IsSome o → P
not_failed None none some = absurd (cc)
not_failed (Some n) none some = absurd (cc)

pub writes_none : {D : Type 0} (seen : D → Option (List ℕ)) (images : D → ℕ → List ℕ → Type 0) (calls faults : D → ℕ) (j : Journaled D) → Writes seen images calls faults j j
writes_none seen images calls faults j = record { stands = λ disk r h. h; faults_are = λ disk f. f }

-- the disk's count of faults has risen where the log has failed
module _ {D : Type 0} (faults : D → ℕ) (old new : Journaled D) (fine : old.failed_at ≡ None) where
  pub faults_on : {T E : Type 0} (result : Result T E) → HasCause (faults old.disk) (faults new.disk) result → OnOk result (new.failed_at ≡ None) → OnErr result (IsSome new.failed_at)
      → (disk : D) → AreFaults faults disk old → AreFaults faults disk new
  faults_on (Ok x) cause none some disk f = record { fine = λ is. cause.fine ∙ f.fine fine; rose = λ is. not_failed new.failed_at none is }
  faults_on (Err x) cause none some disk f = record {
    fine = λ is. not_failed new.failed_at is some;
    rose = λ is. subst (λ (n : ℕ). Rose n (faults new.disk)) (f.fine fine) cause.failed;
  }

module _ {D : Type 0} (seen : D → Option (List ℕ)) (images : D → ℕ → List ℕ → Type 0) (calls : D → ℕ) (passes : CallsPass images calls) (leaves : FlushLeaves) (old new : Journaled D)
    (fine : old.failed_at ≡ None) (later : calls old.disk ≤ calls new.disk) (earlier : KeepsEarlier (calls old.disk) (images old.disk) (images new.disk))
    (crash : (opening : Tables) (commits : List Commit) (k : ℕ) → Logs seen images calls opening commits k old → AreLoggable opening commits
    → EachImage (calls old.disk) (calls new.disk) (images new.disk) (RecoversEither (after_commits opening (take k commits)) (after_commits opening commits))) where
  logged : (r : Run) → IsSome old.failed_at ⊎ LogsRun seen images calls r old → LogsRun seen images calls r old
  logged r (inl failed) = not_failed old.failed_at fine failed
  logged r (inr l) = l

  -- the run survives the calls
  passed : (r : Run) → AreLoggable r.opening (commits_of r.db r.entries) → Stands seen images calls r old → SurvivesCrash r (calls new.disk) (images new.disk)
  passed r loggable s =
      let l = logged r s.logs in
      passes r old.disk new.disk s.survives later earlier
      (λ call from to image left. leaves r l.k image l.at_least l.logs.within (crash r.opening (commits_of r.db r.entries) l.k l.logs loggable call from to image left))

  -- a call failed
  pub stands_failed : IsSome new.failed_at → (disk : D) (r : Run) → SurvivesAt seen images calls disk r old → SurvivesAt seen images calls disk r new
  stands_failed failed disk r h settled bytes is loggable = record { survives = passed r loggable (h settled bytes is loggable); logs = inl failed }

  module _ (wrote : (opening : Tables) (commits : List Commit) (k : ℕ) → Logs seen images calls opening commits k old → Logs seen images calls opening commits (length commits) new) where
    -- all is written
    all_logged : (r : Run) → LogsRun seen images calls r old → LogsRun seen images calls r new
    all_logged r l = record {
      k = length (commits_of r.db r.entries);
      logs = wrote r.opening (commits_of r.db r.entries) l.k l.logs;
      at_least = omega (arith, l.at_least, l.logs.within);
    }

    pub stands_written : (disk : D) (r : Run) → SurvivesAt seen images calls disk r old → SurvivesAt seen images calls disk r new
    stands_written disk r h settled bytes is loggable =
        let s = h settled bytes is loggable in
        record { survives = passed r loggable s; logs = inr (all_logged r (logged r s.logs)) }

    module _ (flush_comes : FlushComes images calls)
        (behind : (opening : Tables) (commits : List Commit) (k : ℕ) → Logs seen images calls opening commits k old → AreLoggable opening commits
        → EachImage (calls new.disk) (calls new.disk) (images new.disk) (Recovers (after_commits opening commits)))
        (r : Run) (e : Entry) (f : IsFlushEntry r.db (calls new.disk) e) where
      all : commits_of r.db (r.entries ++ e ∷ []) ≡ commits_of r.db r.entries
      all = commits-append r.db r.entries (e ∷ []) ∙ ap (λ (l : List Commit). commits_of r.db r.entries ++ l) (makes_none r.db e [] f.changes refl) ∙ append-nil (commits_of r.db r.entries)

      flush_logged : LogsRun seen images calls r old → LogsRun seen images calls (with_entry e r) new
      flush_logged l = record {
        k = length (commits_of r.db r.entries);
        logs = subst (λ (cs : List Commit). Logs seen images calls r.opening cs (length (commits_of r.db r.entries)) new) (sym all) (wrote r.opening (commits_of r.db r.entries) l.k l.logs);
        at_least = let one = durable_all r.db e r.entries f.flush in let two = ap length all in omega (arith, one, two);
      }

      flush_stands : AreLoggable r.opening (commits_of r.db r.entries) → Stands seen images calls r old → Stands seen images calls (with_entry e r) new
      flush_stands loggable s =
          let l = logged r s.logs in
          record {
            survives = flush_comes r e new.disk (passed r loggable s) f.flush f.number_is
                (λ call from to image left. subst (λ (cs : List Commit). Recovers (after_commits r.opening cs) image) (sym all)
                (behind r.opening (commits_of r.db r.entries) l.k l.logs loggable call from to image left));
            logs = inr (flush_logged l);
          }

      pub stands_flushed : (disk : D) → SurvivesAt seen images calls disk r old → SurvivesAt seen images calls disk (with_entry e r) new
      stands_flushed disk h settled bytes is loggable =
          let before : AreLoggable r.opening (commits_of r.db r.entries) = subst (AreLoggable r.opening) all loggable in
          flush_stands before (h settled bytes is before)

-- ---- an append, whatever it answers

some_failed : {D : Type 0} (old new : Journaled D) (n : ℕ) (disk : D) → new ≡ record old { disk = disk; failed_at = Some n } → IsSome new.failed_at
some_failed old new n disk is = subst (λ (j : Journaled _). IsSome j.failed_at) (sym is) refl

pub failed_by : {D T E : Type 0} (result : Result T E) (old new : Journaled D) (n : ℕ) (disk : D) → old.failed_at ≡ None → OnErr result (old.failed_at ≡ None → new ≡ record old { disk = disk; failed_at = Some n })
    → OnErr result (IsSome new.failed_at)
failed_by (Ok x) old new n disk fine h = tt
failed_by (Err x) old new n disk fine h = some_failed old new n disk (h fine)

module _ {D : Type 0} (seen : D → Option (List ℕ)) (images : D → ℕ → List ℕ → Type 0) (calls faults : D → ℕ) (passes : CallsPass images calls) (leaves : FlushLeaves) (flush_comes : FlushComes images calls) (old new : Journaled D)
    (fine : old.failed_at ≡ None) (later : calls old.disk ≤ calls new.disk) (earlier : KeepsEarlier (calls old.disk) (images old.disk) (images new.disk))
    (crash : (opening : Tables) (commits : List Commit) (k : ℕ) → Logs seen images calls opening commits k old → AreLoggable opening commits
    → EachImage (calls old.disk) (calls new.disk) (images new.disk) (RecoversEither (after_commits opening (take k commits)) (after_commits opening commits))) where
  pub writes_by : {T E : Type 0} (result : Result T E) → HasCause (faults old.disk) (faults new.disk) result → OnOk result (new.failed_at ≡ None) → OnErr result (IsSome new.failed_at)
      → OnOk result ((opening : Tables) (commits : List Commit) (k : ℕ) → Logs seen images calls opening commits k old → Logs seen images calls opening commits (length commits) new)
      → Writes seen images calls faults old new
  writes_by (Ok x) cause none some wrote = record {
    stands = stands_written seen images calls passes leaves old new fine later earlier crash wrote;
    faults_are = faults_on faults old new fine (Ok x) cause none some;
  }
  writes_by (Err x) cause none some wrote = record {
    stands = stands_failed seen images calls passes leaves old new fine later earlier crash some;
    faults_are = faults_on faults old new fine (Err x) cause none some;
  }

  pub flushes_by : {T E : Type 0} (result : Result T E) → OnOk result (new.failed_at ≡ None)
      → OnOk result ((opening : Tables) (commits : List Commit) (k : ℕ) → Logs seen images calls opening commits k old → Logs seen images calls opening commits (length commits) new)
      → OnOk result ((opening : Tables) (commits : List Commit) (k : ℕ) → Logs seen images calls opening commits k old → AreLoggable opening commits
      → EachImage (calls new.disk) (calls new.disk) (images new.disk) (Recovers (after_commits opening commits)))
      → OnOk result (Flushes seen images calls old new)
  flushes_by (Ok x) none wrote behind = record {
    unfailed = none;
    comes = λ disk r e f. stands_flushed seen images calls passes leaves old new fine later earlier crash wrote flush_comes behind r e f disk;
  }
  flushes_by (Err x) none wrote behind = tt
