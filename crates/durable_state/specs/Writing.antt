-- What a flush makes of the logs.
use Rattle.std.specs.Prelude.{◌≡◌, ℕ, List, [], true, Option, None, IsSome}
use Rattle.aq_base.specs.declared.DbId.{DbId}
use Rattle.history_laws.specs.Made.{changes_at}
use Rattle.history_laws.specs.Durability.{is_flush}
use Rattle.queue_rows.specs.declared.history.Entry.{Entry}
use Rattle.redo_journal.specs.Journaled.{Journaled}
use Rattle.crash_laws.specs.Crash.{Run, calls_in, with_entry}
use Rattle.durable_state.specs.Survival.{SurvivesAt, AreFaults}

-- the entry is a flush, behind so many calls of the database's disk
pub record IsFlushEntry (db : DbId) (number : ℕ) (e : Entry) : Type 0 where
  pub flush : is_flush e.step ≡ true
  pub changes : changes_at db e ≡ []
  pub number_is : calls_in db e ≡ number

-- the calls of a log's disk, be they made or broken off, leave a run as it was
pub record Writes {D : Type 0} (seen : D → Option (List ℕ)) (images : D → ℕ → List ℕ → Type 0) (calls faults : D → ℕ) (old new : Journaled D) : Type 0 where
  pub stands : (disk : D) (r : Run) → SurvivesAt seen images calls disk r old → SurvivesAt seen images calls disk r new
  pub faults_are : (disk : D) → AreFaults faults disk old → AreFaults faults disk new

-- all that was queued is on the log's disk, and a run goes on so with a flush
pub record Flushes {D : Type 0} (seen : D → Option (List ℕ)) (images : D → ℕ → List ℕ → Type 0) (calls : D → ℕ) (old new : Journaled D) : Type 0 where
  pub unfailed : new.failed_at ≡ None
  pub comes : (disk : D) (r : Run) (e : Entry) → IsFlushEntry r.db (calls new.disk) e → SurvivesAt seen images calls disk r old → SurvivesAt seen images calls disk (with_entry e r) new

-- Home is written first, of logs that had not failed. Where its disk failed no call was made on away's; and where away's failed, all that was queued
-- at home is on its disk.
pub record WritesHomeFirst {D : Type 0} (old_away home away : Journaled D) : Type 0 where
  pub away_waits : IsSome home.failed_at → away ≡ old_away
  pub home_done : IsSome away.failed_at → (home.failed_at ≡ None) × (home.queued ≡ [])
