-- What holds of a run between its turns.
use Rattle.std.specs.Prelude.{◌≡◌, ◌≤◌, ℕ, List, Some, All, length, slice_get}
use Rattle.queue_rows.specs.Session.{Session}
use Rattle.sessions.specs.Numbers.{IsPendable}
use Rattle.history_laws.specs.WorldLaws.{MayBegin}
use Rattle.queue_rows.specs.Legal.{IsLegal}
use Rattle.run_laws.specs.RunLaws.{AreGroupedMarks}
use Rattle.run_laws.specs.ValidRun.{IsValidWorld}
use Rattle.queue_rows.specs.World.{World, opened}

-- a session can commit what it has added: it has done no more than it has called
pub record IsSoundSession (s : Session) : Type 0 where
  pub few : length s.pending ≤ s.next
  pub pendable : All IsPendable s.pending

-- the world is valid, each mark is in the group of its slot, and each of a few sessions can end its transaction
pub record IsSound (w : World) : Type 0 where
  pub valid : IsValidWorld w
  pub grouped : AreGroupedMarks w
  pub few : length w.sessions ≤ 64
  pub each : (i : ℕ) (s : Session) → slice_get w.sessions i ≡ Some s → IsSoundSession s

-- the world as the run began
abbrev pub start_of : World → World
start_of w = opened w.home.opening w.away.opening w.scripts

-- Legal steps led to the world, by these readings of the clock. From this follows that it is sound.
pub record IsRunning (readings : List ℕ) (w : World) : Type 0 where
  pub begins : MayBegin w.home.opening w.away.opening w.scripts
  pub opening : w.opening ≡ (start_of w).opening
  pub legal : IsLegal (start_of w) readings w
  pub count : length readings ≡ w.readings
