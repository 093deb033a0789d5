-- What mounting gives of a disk.
use Rattle.std.specs.Prelude.{◌≡◌, ◌≤◌, ℕ, List, [], Option, None}
use Rattle.std.specs.Option.{ForSome}
use Rattle.aq_disk.specs.Disk.{EachImage}
use Rattle.queue_rows.specs.declared.tables.Tables.{Tables}
use Rattle.redo_journal.specs.Journaled.{Journaled}
use Rattle.redo_journal.specs.Runs.{IsDiskSettled}
use Rattle.crash_laws.specs.Crash.{Recovers}
use Rattle.commit_log.specs.Logged.{Logs}

-- the disk was mounted, and this log stands on it, over these tables: no commit was made yet, and each image since mounting began recovers them
pub record IsMountedOn {D : Type 0} (seen : D → Option (List ℕ)) (images : D → ℕ → List ℕ → Type 0) (calls faults : D → ℕ) (disk : D) (t : Tables) (j : Journaled D) : Type 0 where
  pub logs : IsDiskSettled seen images calls disk → ForSome (seen disk) (λ _. Logs seen images calls t [] 0 j)
  pub crash : IsDiskSettled seen images calls disk → ForSome (seen disk) (λ _. EachImage (calls disk) (calls j.disk) (images j.disk) (Recovers t))
  pub later : calls disk ≤ calls j.disk
  pub unfailed : j.failed_at ≡ None
  pub fine : faults j.disk ≡ faults disk
