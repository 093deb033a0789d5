-- What turns of a world over its disks and its clock leave, however they end.
use Rattle.std.specs.Prelude.{◌≡◌, ℕ, List, Option, Some, IsSome, Result, MatchResult, OnOk, OnErr}
use Rattle.aq_clock.specs.Clock.{step_reading}
use Rattle.queue_rows.specs.Order.{IsFront}
use Rattle.queue_rows.specs.World.{World}
use Rattle.aq_world.specs.Clocked.{Clocked}
use Rattle.aq_world.specs.Turning.{IsOfRun}
use Rattle.aq_world.specs.Held.{Held, HasFailed}
use Rattle.aq_world.specs.RunGoing.{Goes}
use Rattle.aq_world.specs.Broken.{Broken}
use Rattle.aq_world.specs.Broken.TheVariants.{Halted}

-- the clock is that of the serial schedule: it counts seconds from the opening moment, and tells its readings
pub record IsSerialClock {D C : Type 0} (given : C → Option (List ℕ)) (plan : C → Option (ℕ → ℕ)) (w : Clocked D C) : Type 0 where
  pub planned : plan w.clock ≡ Some (step_reading w.held.world.opening)
  pub tells : IsSome (given w.clock)

-- the run is the one that it was, what a crash leaves of it is said as before, and the clock goes on
pub record Passes {D C : Type 0} (seen : D → Option (List ℕ)) (images : D → ℕ → List ℕ → Type 0) (calls faults : D → ℕ) (given : C → Option (List ℕ)) (plan : C → Option (ℕ → ℕ)) (old new : Clocked D C) : Type 0 where
  pub run : IsOfRun old.held.world new.held.world
  pub disks : Goes seen images calls faults old.held new.held
  pub clock : IsSerialClock given plan old → IsSerialClock given plan new

-- turns that came to their end saw no failure; those that were halted did
abbrev pub EndsBy : {T D : Type 0} → Result T Broken → Held D → Held D → Type 0
EndsBy result old new = MatchResult result (λ _. HasFailed new → HasFailed old) (λ e. e ≡ Halted → HasFailed new)

-- A part of the schedule took these turns: whole, they made of the world what they make; broken off, the entries are the first ones of those
-- that they make. A failure is told just where it stood in the way.
pub record Takes {T D C : Type 0} (turns : World → World) (result : Result T Broken) (old new : Clocked D C) : Type 0 where
  pub world : OnOk result (new.held.world ≡ turns old.held.world)
  pub front : OnErr result (IsFront new.held.world.entries (turns old.held.world).entries)
  pub ends : EndsBy result old.held new.held
