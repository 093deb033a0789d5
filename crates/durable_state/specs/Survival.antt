-- What a crash at any moment leaves of a run, of disks that were settled as mounting began.
use Rattle.std.specs.Prelude.{◌≡◌, ◌≤◌, ◌⊎◌, ℕ, List, Option, None, IsSome}
use Rattle.std.specs.Option.{ForSome}
use Rattle.aq_base.specs.declared.DbId.{DbId}
use Rattle.aq_base.specs.declared.DbId.TheVariants.{Home, Away}
use Rattle.aq_disk.specs.Causes.{Rose}
use Rattle.history_laws.specs.Made.{commits_of}
use Rattle.history_laws.specs.Durability.{durable}
use Rattle.redo_journal.specs.Journaled.{Journaled}
use Rattle.redo_journal.specs.Runs.{IsDiskSettled}
use Rattle.crash_laws.specs.Crash.{Run, SurvivesCrash}
use Rattle.commit_log.specs.Logged.{AreLoggable, Logs}
use Rattle.queue_rows.specs.World.{database_at}
use Rattle.durable_state.specs.Held.{Held}

-- the disks as they were handed in
pub record Begun (D : Type 0) : Type 0 where
  pub home : D
  pub away : D

-- the run at a database so far
abbrev pub run_at : {D : Type 0} → DbId → ℕ → Held D → Run
run_at db start v = record { db = db; opening = (database_at db v.world).opening; start = start; entries = v.entries }

-- the log has all commits of the run; on its disk are the first of them, no fewer than are durable
pub record LogsRun {D : Type 0} (seen : D → Option (List ℕ)) (images : D → ℕ → List ℕ → Type 0) (calls : D → ℕ) (r : Run) (j : Journaled D) : Type 0 where
  pub k : ℕ
  pub logs : Logs seen images calls r.opening (commits_of r.db r.entries) k j
  pub at_least : durable r.db r.entries ≤ k

-- the run survives a crash at any moment, and its log has it, unless a call on the disk has failed
pub record Stands {D : Type 0} (seen : D → Option (List ℕ)) (images : D → ℕ → List ℕ → Type 0) (calls : D → ℕ) (r : Run) (j : Journaled D) : Type 0 where
  pub survives : SurvivesCrash r (calls j.disk) (images j.disk)
  pub logs : IsSome j.failed_at ⊎ LogsRun seen images calls r j

-- where the disk was settled, and told its bytes, and each commit of the run can be written so that it is read again
abbrev pub SurvivesAt : {D : Type 0} → (D → Option (List ℕ)) → (D → ℕ → List ℕ → Type 0) → (D → ℕ) → D → Run → Journaled D → Type 0
SurvivesAt seen images calls disk r j = IsDiskSettled seen images calls disk → ForSome (seen disk) (λ _. AreLoggable r.opening (commits_of r.db r.entries) → Stands seen images calls r j)

-- the count of a disk's faults has risen just where its log has failed
pub record AreFaults {D : Type 0} (faults : D → ℕ) (disk : D) (j : Journaled D) : Type 0 where
  pub fine : j.failed_at ≡ None → faults j.disk ≡ faults disk
  pub rose : IsSome j.failed_at → Rose (faults disk) (faults j.disk)

-- the run survives at both databases
pub record Survives {D : Type 0} (seen : D → Option (List ℕ)) (images : D → ℕ → List ℕ → Type 0) (calls faults : D → ℕ) (b : Begun D) (v : Held D) : Type 0 where
  pub home : SurvivesAt seen images calls b.home (run_at Home (calls b.home) v) v.home
  pub away : SurvivesAt seen images calls b.away (run_at Away (calls b.away) v) v.away
  pub home_faults : AreFaults faults b.home v.home
  pub away_faults : AreFaults faults b.away v.away
