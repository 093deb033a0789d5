-- A turn takes legal steps, by the readings before it and the one that it takes.
use Rattle.std.proofs.Common.{◌≡◌, ℕ, ◌+◌, ◌≤◌, List, [], ◌∷◌, ◌++◌, true, refl, sym, ap, ◌∙◌, arith, length, length-append}
use Rattle.queue_rows.specs.declared.history.Step.{Step}
use Rattle.queue_rows.specs.World.{World, read_clock}
use Rattle.queue_rows.specs.Legal.{IsLegal, reads, steps, MayStep, is_timely}
use Rattle.run_turns.proofs.Adding.{step_adds}
use Rattle.run_turns.proofs.Legally.{GoesOn}

-- The world is legal: by those readings where none was taken since, and by them and the next where one was.
pub record IsOnReadings (start : World) (before : List ℕ) (reading : ℕ) (w : World) : Type 0 where
  pub readings : List ℕ
  pub legal : IsLegal start readings w
  pub count : length readings ≡ w.readings
  pub least : length before ≤ w.readings
  pub same : w.readings ≡ length before → readings ≡ before
  pub next : w.readings ≡ length before + 1 → readings ≡ before ++ reading ∷ []

step_on_readings : (start : World) (before : List ℕ) (reading actor : ℕ) (step : Step) (w new : World) → IsOnReadings start before reading w → is_timely w actor step ≡ true → MayStep actor step w new → IsOnReadings start before reading new
step_on_readings start before reading actor step w new c timely m =
    let a = step_adds actor step w new m in
    record {
      readings = c.readings;
      legal = steps c.readings w new actor step c.legal timely m;
      count = c.count ∙ sym a.readings;
      least = let l = c.least in let e = a.readings in omega (arith, l, e);
      same = λ e. c.same (sym a.readings ∙ e);
      next = λ e. c.next (sym a.readings ∙ e);
    }

read_on_readings : (start : World) (before : List ℕ) (reading : ℕ) (w : World) → IsOnReadings start before reading w → IsOnReadings start before reading (read_clock reading w)
unfolding read_clock
read_on_readings start before reading w c = record {
  readings = c.readings ++ reading ∷ [];
  legal = reads c.readings w reading c.legal;
  count = length-append c.readings (reading ∷ []) ∙ ap (λ n. n + 1) c.count;
  least = let l = c.least in omega (arith, l);
  same = λ e. absurd (let l = c.least in omega (arith, l, e));
  next = λ e. ap (λ rs. rs ++ reading ∷ []) (c.same (omega (arith, e)));
}

pub on_readings : (start : World) (before : List ℕ) (reading : ℕ) → GoesOn start (IsOnReadings start before reading) (λ _. reading)
on_readings start before reading = record {
  legal = λ w c. (c.readings, c.legal);
  read = λ w c. read_on_readings start before reading w c;
  step = step_on_readings start before reading;
}

-- a world that is legal by those readings, before a turn
pub on_readings_so : (start : World) (before : List ℕ) (reading : ℕ) (w : World) → IsLegal start before w → length before ≡ w.readings → IsOnReadings start before reading w
on_readings_so start before reading w l e = record {
  readings = before;
  legal = l;
  count = e;
  least = omega (arith, e);
  same = λ _. refl;
  next = λ f. absurd (omega (arith, e, f));
}
