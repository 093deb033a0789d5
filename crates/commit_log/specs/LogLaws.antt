-- The laws of what is logged.
use Rattle.std.specs.Prelude.{ℕ, List, ◌++◌, take, Option}
use Rattle.aq_disk.specs.Disk.{EachImage}
use Rattle.aq_disk.specs.declared.device.Disk.{Ghosts}
use Rattle.redo_journal.specs.Journaled.{Journaled}
use Rattle.queue_rows.specs.declared.tables.Tables.{Tables}
use Rattle.queue_rows.specs.declared.change.Commit.{Commit}
use Rattle.history_laws.specs.Made.{after_commits}
use Rattle.crash_laws.specs.Crash.{Recovers}
use Rattle.commit_log.specs.Compacting.{KeepsTables}
use Rattle.commit_log.specs.Logged.{AreLoggable, Logs}

-- where commits can be logged, so can those so far
abbrev pub LoggableSoFar : Type 0
LoggableSoFar = (opening : Tables) (front rest : List Commit) → AreLoggable opening (front ++ rest) → AreLoggable opening front

-- a crash now leaves the commits that are on the disk
abbrev pub LogRecovers : {D : Type 0} → (D → Option (List ℕ)) → (D → ℕ → List ℕ → Type 0) → (D → ℕ) → Type 0
LogRecovers {D} seen images calls = (opening : Tables) (commits : List Commit) (k : ℕ) (j : Journaled D) → Logs seen images calls opening commits k j
    → AreLoggable opening commits → EachImage (calls j.disk) (calls j.disk) (images j.disk) (Recovers (after_commits opening (take k commits)))

-- a log that is left alone keeps its tables
abbrev pub LogKeeps : {D : Type 0} → Ghosts D → Type 0
LogKeeps {D} device = (t : Tables) (j : Journaled D) → KeepsTables device t j j.disk
