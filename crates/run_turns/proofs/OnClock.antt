-- The serial schedule takes legal steps, by the readings of its clock.
use Rattle.std.proofs.Common.{◌≡◌, ℕ, zero, suc, ◌+◌, List, [], ◌∷◌, ◌++◌, sym, ap, subst, ◌∙◌, add-one, length, true, not}
use Rattle.std.specs.Prelude.{◌&&◌, is_none}
use Rattle.std.proofs.lemmas.Bool.{and_from}
use Rattle.aq_base.specs.declared.DbId.TheVariants.{Home, Away}
use Rattle.queue_rows.specs.Turns.{step_readings, step_reading, next_reading, telling_turn, drained, closing_turn, is_due, is_durable, is_still, DrainsIn}
use Rattle.queue_rows.specs.declared.history.Step.{Step}
use Rattle.queue_rows.specs.World.{World, read_clock}
use Rattle.queue_rows.specs.Sending.{is_durable_at, next_sending}
use Rattle.queue_rows.specs.Serial.{next_session_turn, next_timer_turn, next_propagator_turn, each, session_turns, background_turns, round, rounds, at_closing, next_closing_turn}
use Rattle.queue_rows.specs.Legal.{IsLegal, reads, steps, MayStep, is_timely}
use Rattle.run_laws.specs.ValidRun.{IsValidWorld}
use Rattle.run_turns.proofs.Adding.{step_adds}
use Rattle.run_turns.proofs.Sounding.{IsSound}
use Rattle.run_turns.proofs.Legally as turns
use Rattle.run_turns.proofs.Legally.{GoesOn}

-- the world is legal by the readings of the serial schedule's clock
pub record IsOnClock (start w : World) : Type 0 where
  pub legal : IsLegal start (step_readings start.opening w.readings) w
  pub opening : w.opening ≡ start.opening

-- a legal step keeps it so
step_on_clock : (start : World) (actor : ℕ) (step : Step) (w new : World) → IsOnClock start w → is_timely w actor step ≡ true → MayStep actor step w new → IsOnClock start new
step_on_clock start actor step w new c timely m =
    let a = step_adds actor step w new m in
    record { legal = subst (λ n. IsLegal start (step_readings start.opening n) new) (sym a.readings) (steps (step_readings start.opening w.readings) w new actor step c.legal timely m); opening = a.opening ∙ c.opening }

read_on_clock : (start w : World) → IsOnClock start w → IsOnClock start (read_clock (next_reading w) w)
unfolding read_clock
read_on_clock start w c =
    let v = read_clock (next_reading w) w in
    let l : IsLegal start (step_readings start.opening w.readings ++ next_reading w ∷ []) v = reads (step_readings start.opening w.readings) w (next_reading w) c.legal in
    let same : step_readings start.opening w.readings ++ next_reading w ∷ [] ≡ step_readings start.opening (w.readings + 1)
    = ap (λ o. step_readings start.opening w.readings ++ step_reading o (w.readings + 1) ∷ []) c.opening ∙ sym (ap (step_readings start.opening) (add-one w.readings)) in
    record { legal = subst (λ rs. IsLegal start rs v) same l; opening = c.opening }

on_clock : (start : World) → GoesOn start (IsOnClock start) next_reading
on_clock start = record {
  legal = λ w c. (step_readings start.opening w.readings, c.legal);
  read = λ w c. read_on_clock start w c;
  step = step_on_clock start;
}

module _ (start : World) (sv : IsValidWorld start) (sk : IsSound start) (first : start.entries ≡ []) where
  each_on : (f : ℕ → World → World) (n : ℕ) (w : World) → ((i : ℕ) (v : World) → IsOnClock start v → IsOnClock start (f i v)) → IsOnClock start w → IsOnClock start (each f n w)
  each_on f zero w k c = c
  each_on f (suc n) w k c = k n (each f n w) (each_on f n w k c)

  session_on : (i : ℕ) (w : World) → IsOnClock start w → IsOnClock start (next_session_turn i w)
  session_on i w c = turns.session_turn_on start sv sk first (IsOnClock start) next_reading (on_clock start) w i c

  telling_on : (i : ℕ) (w : World) → IsOnClock start w → IsOnClock start (telling_turn i w)
  telling_on i w c = turns.telling_turn_on start sv sk first (IsOnClock start) next_reading (on_clock start) w i c

  background_on : (w : World) → IsOnClock start w → IsOnClock start (background_turns w)
  background_on w c =
      turns.propagator_on start sv sk first (IsOnClock start) next_reading (on_clock start) (next_timer_turn w)
      (turns.timer_on start sv sk first (IsOnClock start) next_reading (on_clock start) w c)

  round_on : (w : World) → IsOnClock start w → IsOnClock start (round w)
  unfolding round
  round_on w c =
      let a = session_turns w in
      let b = background_turns a in
      each_on telling_turn (length b.sessions) b telling_on (background_on a (each_on next_session_turn (length w.sessions) w session_on c))

  pub rounds_on : (n : ℕ) (w : World) → IsOnClock start w → IsOnClock start (rounds n w)
  unfolding rounds
  rounds_on zero w c = c
  rounds_on (suc n) w c = round_on (rounds n w) (rounds_on n w c)

  pub draining_on : (n : ℕ) (w : World) → IsOnClock start w → IsOnClock start (drained n (at_closing w))
  draining_on n w c = (turns.draining_on start sv sk first (IsOnClock start) next_reading (on_clock start) n w c).on

  pub closing_on : (n : ℕ) (w : World) → IsOnClock start w → IsOnClock start (next_closing_turn n w)
  closing_on n w c = turns.closing_on start sv sk first (IsOnClock start) next_reading (on_clock start) n w c

  flushed_there : (n : ℕ) (w : World) → IsOnClock start w → turns.IsFlushed start sv sk first (IsOnClock start) next_reading (on_clock start) (drained n (at_closing w)) (next_closing_turn n w)
  unfolding closing_turn
  flushed_there n w c = turns.closing_flushed start sv sk first (IsOnClock start) next_reading (on_clock start) n w c

  -- behind the closing turn every commit is durable
  pub closing_durable : (n : ℕ) (w : World) → IsOnClock start w → is_durable (next_closing_turn n w) ≡ true
  closing_durable n w c =
      let f = flushed_there n w c in
      let v = next_closing_turn n w in
      and_from (is_durable_at Home v) (is_durable_at Away v) (turns.durable_there start sv sk first (IsOnClock start) next_reading (on_clock start) v Home (f.durable Home)) (turns.durable_there start sv sk first (IsOnClock start) next_reading (on_clock start) v Away (f.durable Away))

  still_as : (v w : World) → is_due w ≡ is_due v → next_sending w ≡ next_sending v → is_still v ≡ true → is_still w ≡ true
  unfolding is_still
  still_as v w e f s = ap (λ b. not b && is_none (next_sending w)) e ∙ ap (λ o. not (is_due v) && is_none o) f ∙ s

  -- and nothing is due or can be sent, where it drained
  pub closing_still : (n : ℕ) (w : World) → IsOnClock start w → DrainsIn (at_closing w) n → is_still (next_closing_turn n w) ≡ true
  closing_still n w c drains = let f = flushed_there n w c in still_as (drained n (at_closing w)) (next_closing_turn n w) f.due_same f.sends drains
