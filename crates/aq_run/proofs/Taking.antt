-- Parts of the serial schedule, whole and broken off.
use Rattle.std.proofs.Common.{◌≡◌, ◌<◌, ◌+◌, ℕ, List, Option, Result, Ok, Err, refl, sym, ◌∙◌, subst, length}
use Rattle.std.specs.Prelude.{OnOk, OnErr, IfErr}
use Rattle.std.specs.Result.{IsErrAnd}
use Rattle.queue_rows.specs.Order.{IsFront}
use Rattle.queue_rows.specs.Serial.{each}
use Rattle.queue_rows.specs.Turns.{next_reading}
use Rattle.queue_rows.specs.World.{World}
use Rattle.run_turns.proofs.Growing.{Grows}
use Rattle.aq_world.specs.RunGoing.{Goes}
use Rattle.aq_world.specs.Held.{HasFailed}
use Rattle.aq_world.specs.Broken.{Broken}
use Rattle.aq_world.specs.Broken.TheVariants as breaks
use Rattle.aq_world.specs.Clocked.{Clocked, IsTurn}
use Rattle.aq_world.specs.Turning.{turned, IsOfRun, IsWhole}
use Rattle.aq_world.specs.declared.turn_end.TurnEnd.{TurnEnd}
use Rattle.aq_world.specs.declared.turn_end.TurnEnd.TheVariants as ends
use Rattle.aq_run.specs.Passing.{IsSerialClock, Passes, Takes}
use Rattle.aq_run.proofs.Clocking.{turn_world, turn_front, turn_clock}
use Rattle.aq_run.proofs.Closing.{turn_run, turn_ends}
use Rattle.aq_run.proofs.Fronts.{each_next, each_front}
use Rattle.aq_run.proofs.Passing.{passes-refl, passes-trans}
use Rattle.aq_run.proofs.Results.{ok_from, err_from}

-- ---- one part

-- no turn was to be taken
pub takes_none : {T D C : Type 0} (turns : World → World) (x : T) (v : Clocked D C) → v.held.world ≡ turns v.held.world → Takes turns (Ok x) v v
takes_none turns x v e = record { world = e; front = _; ends = λ failed. failed }

-- the same turns under another name
pub takes_as : {T D C : Type 0} (turns others : World → World) (r : Result T Broken) (old new : Clocked D C) → turns old.held.world ≡ others old.held.world → Takes turns r old new → Takes others r old new
takes_as turns others r old new same t = record {
  world = ok_from r t.world (λ is. is ∙ same);
  front = err_from r t.front (λ front. subst (λ v. IsFront new.held.world.entries v.entries) same front);
  ends = t.ends;
}

-- broken off in a part, whose error is passed on
pub broken_in : {T D C : Type 0} (turns : World → World) (r : Result T Broken) (why : Broken) (old new : Clocked D C) → IsErrAnd r (λ e. e ≡ why)
    → IsFront new.held.world.entries (turns old.held.world).entries → (why ≡ breaks.Halted → HasFailed new.held) → Takes turns r old new
broken_in turns (Ok x) why old new is front halted = absurd is
broken_in turns (Err e) why old new is front halted = record { world = _; front = front; ends = λ h. halted (sym is ∙ h) }

-- ---- the turn of an actor

module _ {D C : Type 0} (given : C → Option (List ℕ)) (plan : C → Option (ℕ → ℕ)) (actor : ℕ) (old new : Clocked D C) (end : TurnEnd) (t : IsTurn given plan actor end old new) where
  pub takes_turned : {T : Type 0} (turns : World → World) (r : Result T Broken) → IsSerialClock given plan old → turned (next_reading old.held.world) actor old.held.world ≡ turns old.held.world
      → OnOk r (IsWhole end) → OnErr r (IsWhole end → ⊥) → IfErr r (λ e. e ≡ breaks.Halted → end ≡ ends.Halted)
      → (end ≡ ends.Halted → HasFailed new.held) → ((end ≡ ends.Halted → ⊥) → HasFailed new.held → ⊥) → Takes turns r old new
  takes_turned turns r on same whole broken halted failed fine = record {
    world = ok_from r whole (λ w. turn_world given plan old new on actor end t w ∙ same);
    front = err_from r broken (λ b. subst (λ v. IsFront new.held.world.entries v.entries) same (turn_front given plan old new on actor end t b));
    ends = turn_ends end r old.held new.held whole halted failed fine;
  }

  pub passes_turned : (seen : D → Option (List ℕ)) (images : D → ℕ → List ℕ → Type 0) (calls faults : D → ℕ) → ((reading : ℕ) → IsOfRun old.held.world (turned reading actor old.held.world))
      → Goes seen images calls faults old.held new.held → Passes seen images calls faults given plan old new
  passes_turned seen images calls faults turns goes =
      let run = turn_run given plan actor old new end turns t in
      record { run = run; disks = goes; clock = λ on. turn_clock given plan old new run on actor end t }

-- ---- turns of several sessions, one after another

module _ {D C : Type 0} (seen : D → Option (List ℕ)) (images : D → ℕ → List ℕ → Type 0) (calls faults : D → ℕ) (given : C → Option (List ℕ)) (plan : C → Option (ℕ → ℕ)) (f : ℕ → World → World) where
  -- those of all sessions
  abbrev of_all : World → World
  of_all w = each f (length w.sessions) w

  -- the first so many of them were taken
  pub record HasTaken (at : ℕ) (start v : Clocked D C) : Type 0 where
    pub world : v.held.world ≡ each f at start.held.world
    pub passes : Passes seen images calls faults given plan start v
    pub fine : HasFailed v.held → HasFailed start.held

  pub taken_none : (start : Clocked D C) → HasTaken 0 start start
  taken_none start = record { world = refl; passes = passes-refl seen images calls faults given plan start; fine = λ failed. failed }

  pub taken_next : {T : Type 0} (at : ℕ) (x : T) (start v new : Clocked D C) → HasTaken at start v → Takes (f at) (Ok x) v new → Passes seen images calls faults given plan v new → HasTaken (at + 1) start new
  taken_next at x start v new h t p = record {
    world = each_next f at start.held.world v.held.world new.held.world h.world t.world;
    passes = passes-trans seen images calls faults given plan start v new h.passes p;
    fine = λ failed. h.fine (t.ends failed);
  }

  pub taken_all : {T : Type 0} (at : ℕ) (x : T) (start v : Clocked D C) → at ≡ length start.held.world.sessions → HasTaken at start v → Takes of_all (Ok x) start v
  taken_all at x start v all h = record { world = subst (λ n. v.held.world ≡ each f n start.held.world) all h.world; front = _; ends = h.fine }

  pub taken_broken : ((i : ℕ) (w : World) → Grows w (f i w)) → {S T : Type 0} (at : ℕ) (r : Result T Broken) (why : Broken) (start v new : Clocked D C) → IsErrAnd r (λ e. e ≡ why) → at < length start.held.world.sessions
      → HasTaken at start v → Takes {T = S} (f at) (Err why) v new → Takes of_all r start new
  taken_broken grows at r why start v new is lt h t =
      broken_in of_all r why start new is (each_front f grows at (length start.held.world.sessions) start.held.world v.held.world new.held.world.entries h.world lt t.front) t.ends
