-- A turn by the clock of the serial schedule takes the next reading of that.
use Rattle.std.proofs.Common.{◌≡◌, ℕ, ◌+◌, Bool, true, false, not, List, [], Option, Some, None, refl, sym, ap, subst, ◌∙◌, arith}
use Rattle.std.specs.Prelude.{IsSome, ◌&&◌, ◌==◌, min, slice_get, is_none, is_some, if◌then◌else◌}
use Rattle.std.proofs.lemmas.Bool.{false≢true}
use Rattle.queue_rows.specs.Session.{Session, Untold}
use Rattle.queue_rows.specs.Order.{IsFront}
use Rattle.queue_rows.specs.World.{greatest_moment, World, read_clock}
use Rattle.queue_rows.specs.Turns.{next_reading, turn_of, turn_of_some, session_turn, timer_turn, propagator_turn, begun, propagated, own_turn, any_live, closing_turn, DrainsIn}
use Rattle.queue_rows.specs.Statements.{next_statement}
use Rattle.aq_clock.specs.Clock.{step_reading}
use Rattle.aq_world.specs.Clocked.{Clocked, IsClosing, IsTurn, Reads, TakesReading}
use Rattle.aq_world.specs.Turning.{IsOfRun, IsUnclosed, IsWhole, is_over, is_owed, is_session, reads_clock, turned}
use Rattle.aq_world.specs.declared.turn_end.TurnEnd.{TurnEnd}
use Rattle.aq_world.specs.declared.turn_end.TurnEnd.TheVariants as ends
use Rattle.aq_run.specs.Passing.{IsSerialClock}
use Rattle.aq_run.specs.Rounds.{IsClosed}

-- ---- a turn that takes no reading is the same whatever that would be

told_or_over : (r n i : ℕ) (s : Session) (o : Option Untold) (w : World) (live : Bool) → s.live ≡ live → (not (not live && is_none o) && not (true && is_some o)) ≡ false → turn_of r i s o w ≡ turn_of n i s o w
told_or_over r n i s (Some u) w live e none = refl
told_or_over r n i s None w true e none = absurd (false≢true (sym none))
told_or_over r n i s None w false e none =
    ap (λ b. if b then own_turn i s (next_statement w i s) (begun i r w) else w) e ∙ sym (ap (λ b. if b then own_turn i s (next_statement w i s) (begun i n w) else w) e)

session_same : (r n i : ℕ) (o : Option Session) (w : World) → (not (is_over o) && not (true && is_owed o)) ≡ false → turn_of_some r i o w ≡ turn_of_some n i o w
session_same r n i None w none = refl
session_same r n i (Some s) w none = told_or_over r n i s s.untold w s.live refl none

background_same : (b : Bool) (u v w : World) → (not (not b) && true) ≡ false → (if b then u else w) ≡ (if b then v else w)
background_same true u v w none = absurd (false≢true (sym none))
background_same false u v w none = refl

turn_if : (b c owed : Bool) (r n actor : ℕ) (w : World) → owed ≡ is_owed (slice_get w.sessions actor)
    → (not (if b then is_over (slice_get w.sessions actor) else not (any_live w)) && not (b && owed)) ≡ false
    → (if b then session_turn r actor w else (if c then timer_turn r w else propagator_turn r w)) ≡ (if b then session_turn n actor w else (if c then timer_turn n w else propagator_turn n w))
unfolding session_turn timer_turn propagator_turn
turn_if true c owed r n actor w e none =
    session_same r n actor (slice_get w.sessions actor) w (ap (λ x. not (is_over (slice_get w.sessions actor)) && not (true && x)) (sym e) ∙ none)
turn_if false true owed r n actor w e none = background_same (any_live w) (begun 64 r w) (begun 64 n w) w none
turn_if false false owed r n actor w e none = background_same (any_live w) (propagated 65 (begun 65 r w)) (propagated 65 (begun 65 n w)) w none

turned_same : (r n actor : ℕ) (w : World) → reads_clock actor w ≡ false → turned r actor w ≡ turned n actor w
turned_same r n actor w none = turn_if (is_session actor) (actor == 64) (is_owed (slice_get w.sessions actor)) r n actor w refl none

-- ---- the next reading

pub some_given : (o : Option (List ℕ)) → o ≡ Some [] → IsSome o
some_given o e = subst IsSome (sym e) refl

-- so the clock counts as the schedule does
same_count : (opening number : ℕ) → step_reading opening number ≡ min (opening + (number + 1)) greatest_moment
same_count opening number = omega arith

module _ {D C : Type 0} (given : C → Option (List ℕ)) (plan : C → Option (ℕ → ℕ)) (old new : Clocked D C) (on : IsSerialClock given plan old) where
  taken_next : (reading : ℕ) → TakesReading given plan old.held.world.readings reading old.clock new.clock → reading ≡ next_reading old.held.world
  taken_next reading t = t.as_planned on.tells (step_reading old.held.world.opening) on.planned ∙ same_count old.held.world.opening old.held.world.readings

  turned_by : (b : Bool) (reading actor : ℕ) → reads_clock actor old.held.world ≡ b → Reads given plan b old.held.world.readings reading old.clock new.clock
      → turned reading actor old.held.world ≡ turned (next_reading old.held.world) actor old.held.world
  turned_by true reading actor e t = ap (λ r. turned r actor old.held.world) (taken_next reading t)
  turned_by false reading actor e t = turned_same reading (next_reading old.held.world) actor old.held.world e

  -- the turn is that of the serial schedule
  turned_next : (actor : ℕ) (end : TurnEnd) (t : IsTurn given plan actor end old new) → turned t.reading actor old.held.world ≡ turned (next_reading old.held.world) actor old.held.world
  turned_next actor end t = turned_by (reads_clock actor old.held.world) t.reading actor refl t.reads

  pub turn_world : (actor : ℕ) (end : TurnEnd) → IsTurn given plan actor end old new → IsWhole end → new.held.world ≡ turned (next_reading old.held.world) actor old.held.world
  turn_world actor end t whole = t.world whole ∙ turned_next actor end t

  pub turn_front : (actor : ℕ) (end : TurnEnd) → IsTurn given plan actor end old new → (IsWhole end → ⊥) → IsFront new.held.world.entries (turned (next_reading old.held.world) actor old.held.world).entries
  turn_front actor end t broken = subst (λ v. IsFront new.held.world.entries v.entries) (turned_next actor end t) (t.front broken)

  -- and so is the closing turn
  pub closing_world : (end : TurnEnd) → IsClosing given plan end old new → end ≡ ends.Done → IsClosed old.held.world new.held.world
  closing_world end t done =
      let w = t.world done in
      let e = taken_next t.reading t.reads in
      (w.0, subst (λ r. DrainsIn (read_clock r old.held.world) w.0) e w.1, w.2 ∙ ap (λ r. closing_turn r w.0 old.held.world) e)

  pub closing_front : (end : TurnEnd) → IsClosing given plan end old new → (IsWhole end → ⊥) → IsUnclosed (next_reading old.held.world) old.held.world new.held.world
  closing_front end t broken = subst (λ r. IsUnclosed r old.held.world new.held.world) (taken_next t.reading t.reads) (t.front broken)

-- ---- the clock goes on

module _ {D C : Type 0} (given : C → Option (List ℕ)) (plan : C → Option (ℕ → ℕ)) (old new : Clocked D C) (run : IsOfRun old.held.world new.held.world) (on : IsSerialClock given plan old) where
  clock_read : (reading : ℕ) → TakesReading given plan old.held.world.readings reading old.clock new.clock → IsSerialClock given plan new
  clock_read reading t = record { planned = t.planned ∙ on.planned ∙ ap (λ n. Some (step_reading n)) (sym run.opening); tells = t.tells on.tells }

  clock_by : (b : Bool) (reading : ℕ) → Reads given plan b old.held.world.readings reading old.clock new.clock → IsSerialClock given plan new
  clock_by true reading t = clock_read reading t
  clock_by false reading same = record {
    planned = ap plan same ∙ on.planned ∙ ap (λ n. Some (step_reading n)) (sym run.opening);
    tells = subst (λ c. IsSome (given c)) (sym same) on.tells;
  }

  pub turn_clock : (actor : ℕ) (end : TurnEnd) → IsTurn given plan actor end old new → IsSerialClock given plan new
  turn_clock actor end t = clock_by (reads_clock actor old.held.world) t.reading t.reads

  pub closing_clock : (end : TurnEnd) → IsClosing given plan end old new → IsSerialClock given plan new
  closing_clock end t = clock_read t.reading t.reads
