-- The entries of a run without disks.
use Rattle.std.specs.Prelude.{◌≡◌, ◌≤◌, ◌⊎◌, ℕ, List, length}
use Rattle.queue_rows.specs.declared.history.Entry.{Entry}
use Rattle.queue_rows.specs.declared.history.History.{History}
use Rattle.queue_rows.specs.Turns.{flushed}
use Rattle.queue_rows.specs.World.{World}

-- no disk was called: there is none yet
abbrev pub HasNoCalls : Entry → Type 0
HasNoCalls e = (e.home_calls ≡ 0) × (e.away_calls ≡ 0)

-- each commit has its entry
pub record AreCounted (home away : ℕ) (entries : List Entry) : Type 0 where
  pub home_made : home ≤ length entries
  pub away_made : away ≤ length entries

-- the history begins with the tables, the moment and the scripts with which the run began
pub record BeginsAs (w : World) (history : History) : Type 0 where
  pub home_is : history.home ≡ w.home.opening
  pub away_is : history.away ≡ w.away.opening
  pub opening_is : history.opening ≡ w.opening
  pub scripts_are : history.scripts ≡ w.scripts

-- a telling was broken off: at most commits were made durable
abbrev pub IsUntold : ℕ → World → World → Type 0
IsUntold actor old new = (new ≡ old) ⊎ (new ≡ flushed actor old)
