-- What an entry that is no flush makes of the logs.
use Rattle.std.specs.Prelude.{◌≡◌, ◌++◌, ◌-◌, ◌==◌, ℕ, List, [], ◌∷◌, Bool, false, not, if◌then◌else◌, length, take, Option}
use Rattle.aq_base.specs.declared.DbId.{DbId}
use Rattle.history_laws.specs.Made.{changes_at}
use Rattle.history_laws.specs.Durability.{is_flush}
use Rattle.queue_rows.specs.declared.change.Change.{Change}
use Rattle.queue_rows.specs.declared.history.Entry.{Entry}
use Rattle.redo_journal.specs.Journaled.{Journaled}
use Rattle.redo_records.specs.Spelling.{encode}
use Rattle.crash_laws.specs.Crash.{Run, calls_in, with_entry}
use Rattle.durable_state.specs.Survival.{SurvivesAt}
use Rattle.durable_state.specs.declared.disk_calls.DiskCalls.{DiskCalls}
use Rattle.durable_state.specs.declared.run_logs.Queued.{Queued}
use Rattle.durable_state.specs.declared.run_logs.RunLogs.{RunLogs}

-- ---- one log

-- the log with the bytes of a commit of these changes queued last; an empty list is no commit
abbrev pub queueing : {D : Type 0} → ℕ → List Change → Journaled D → Journaled D
queueing moment cs j = if length cs == 0 then j else record j { queued = j.queued ++ encode (record { moment = moment; changes = cs }) ∷ [] }

-- the log without what was queued last, if that is to be taken back
abbrev pub unqueueing : {D : Type 0} → Bool → Journaled D → Journaled D
unqueueing back j = if back then record j { queued = take (length j.queued - 1) j.queued } else j

-- the entry is no flush, and commits these changes at the database, whose disk has so many calls
pub record IsQuietEntry (db : DbId) (moment : ℕ) (cs : List Change) (number : ℕ) (e : Entry) : Type 0 where
  pub quiet : is_flush e.step ≡ false
  pub moment_is : e.moment ≡ moment
  pub changes : changes_at db e ≡ cs
  pub number_is : calls_in db e ≡ number

-- the log has the commit queued, and a run goes on so with an entry that makes it
pub record Queues {D : Type 0} (seen : D → Option (List ℕ)) (images : D → ℕ → List ℕ → Type 0) (calls : D → ℕ) (moment : ℕ) (cs : List Change) (old new : Journaled D) : Type 0 where
  pub is : new ≡ queueing moment cs old
  pub comes : (disk : D) (r : Run) (e : Entry) → IsQuietEntry r.db moment cs (calls old.disk) e → SurvivesAt seen images calls disk r old → SurvivesAt seen images calls disk (with_entry e r) new

-- ---- both logs

-- which of the logs have a commit of such an entry
abbrev pub queued_of : List Change → List Change → Queued
queued_of home away = record { home = not (length home == 0); away = not (length away == 0) }

-- the present call numbers of the disks
abbrev pub numbers : {D : Type 0} → (D → ℕ) → RunLogs D → DiskCalls
numbers calls l = record { home = calls l.home.disk; away = calls l.away.disk }

-- the logs have queued what an entry commits, and keep the call numbers behind it
pub record Enters {D : Type 0} (seen : D → Option (List ℕ)) (images : D → ℕ → List ℕ → Type 0) (calls : D → ℕ) (moment : ℕ) (home away : List Change) (old new : RunLogs D) : Type 0 where
  pub home_log : Queues seen images calls moment home old.home new.home
  pub away_log : Queues seen images calls moment away old.away new.away
  pub calls_are : new.calls.items ≡ old.calls.items ++ numbers calls old ∷ []

-- the logs without the entry that came last, of which these have a commit
abbrev pub taken_back : {D : Type 0} → Queued → RunLogs D → RunLogs D
taken_back queued l = record {
  home = unqueueing queued.home l.home;
  away = unqueueing queued.away l.away;
  calls = record { items = take (length l.calls.items - 1) l.calls.items; capacity = l.calls.capacity };
}
