-- A run and its clock: of what a clock has given and what it will give, where it tells that.
use Rattle.std.specs.Prelude.{◌≡◌, ◌⊎◌, ℕ, List, Bool, true, false, Option, IsSome}
use Rattle.std.specs.Option.{ForSome}
use Rattle.aq_clock.specs.Clock.{HasReading}
use Rattle.queue_rows.specs.Order.{IsFront}
use Rattle.queue_rows.specs.Turns.{closing_turn, DrainsIn}
use Rattle.queue_rows.specs.World.{World, read_clock}
use Rattle.durable_state.specs.Going.{AddsEntries}
use Rattle.durable_state.specs.Held.{Held, HasFailed}
use Rattle.next_steps.specs.Sound.{IsRunning}
use Rattle.aq_world.specs.Turning.{IsBrokenOff, IsFlushDue, IsOfRun, IsUnclosed, IsWhole, reads_clock, turned, turn_end}
use Rattle.aq_world.specs.declared.turn_end.TurnEnd.{TurnEnd}
use Rattle.aq_world.specs.declared.turn_end.TurnEnd.TheVariants.{Done, Halted, Memory}

-- what contracts see of a run: what stands on its disks, and its clock
pub record Clocked (D C : Type 0) : Type 0 where
  pub held : Held D
  pub clock : C

-- legal steps led to the world; where the clock tells its readings, it was by those
pub record IsClocked {C : Type 0} (given : C → Option (List ℕ)) (clock : C) (w : World) : Type 0 where
  pub readings : List ℕ
  pub told : ForSome (given clock) (λ before. before ≡ readings)
  pub running : IsRunning readings w

-- ---- readings

-- The clock was read once, and so many readings were taken before: where it tells what it has given, this was given last, and where it
-- tells its readings beforehand, it is the next of them.
pub record TakesReading {C : Type 0} (given : C → Option (List ℕ)) (plan : C → Option (ℕ → ℕ)) (number reading : ℕ) (old new : C) : Type 0 where
  pub taken : ForSome (given new) (HasReading (given old) reading)
  pub tells : IsSome (given old) → IsSome (given new)
  pub planned : plan new ≡ plan old
  pub as_planned : IsSome (given old) → ForSome (plan old) (λ rule. reading ≡ rule number)

-- the clock was read once, or it was left alone
abbrev pub Reads : {C : Type 0} → (C → Option (List ℕ)) → (C → Option (ℕ → ℕ)) → Bool → ℕ → ℕ → C → C → Type 0
Reads given plan true number reading old new = TakesReading given plan number reading old new
Reads given plan false number reading old new = new ≡ old

-- ---- turns

-- The run goes on by entries of that actor alone, with the disks' call numbers behind them; how it began stays.
pub record Grows {D : Type 0} (actor : ℕ) (old new : Held D) : Type 0 where
  pub adds : AddsEntries actor old new
  pub run : IsOfRun old.world new.world

-- The actor's turn ended so: with the reading that it takes, if it takes one, it was the turn of the definitions, or was broken off.
pub record IsTurn {D C : Type 0} (given : C → Option (List ℕ)) (plan : C → Option (ℕ → ℕ)) (actor : ℕ) (end : TurnEnd) (old new : Clocked D C) : Type 0 where
  pub reading : ℕ
  pub reads : Reads given plan (reads_clock actor old.held.world) old.held.world.readings reading old.clock new.clock
  pub world : IsWhole end → new.held.world ≡ turned reading actor old.held.world
  pub end_is : IsWhole end → end ≡ turn_end reading actor old.held.world
  pub why : (IsWhole end → ⊥) → (end ≡ Memory) ⊎ (end ≡ Halted)
  pub broken : (IsWhole end → ⊥) → IsBrokenOff actor reading old.held.world new.held.world
  pub front : (IsWhole end → ⊥) → IsFront new.held.world.entries (turned reading actor old.held.world).entries

-- The closing turn ended so: with its one reading it was that of the definitions, or was broken off. Where a call on a disk failed in it a flush
-- was due.
pub record IsClosing {D C : Type 0} (given : C → Option (List ℕ)) (plan : C → Option (ℕ → ℕ)) (end : TurnEnd) (old new : Clocked D C) : Type 0 where
  pub reading : ℕ
  pub reads : TakesReading given plan old.held.world.readings reading old.clock new.clock
  pub world : end ≡ Done → (steps : ℕ) × DrainsIn (read_clock reading old.held.world) steps × (new.held.world ≡ closing_turn reading steps old.held.world)
  pub front : (IsWhole end → ⊥) → IsUnclosed reading old.held.world new.held.world
  pub run : (IsWhole end → ⊥) → IsOfRun old.held.world new.held.world
  pub due : end ≡ Halted → (HasFailed old.held → ⊥) → IsFlushDue reading old.held.world new.held.world
