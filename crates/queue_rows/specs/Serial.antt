-- The serial schedule: rounds in which each live session takes a turn, then the timer, then the propagator, and then what
-- was called is told; and when no session is live, the closing turn.
use Rattle.std.specs.Prelude.{ℕ, zero, suc, ◌≡◌, List, false, map, length}
use Rattle.queue_rows.specs.World.{World, opened, opening_moment, read_clock, uncounted}
use Rattle.queue_rows.specs.Order.{IsFront}
use Rattle.queue_rows.specs.Turns.{next_reading, session_turn, telling_turn, timer_turn, propagator_turn, any_live, closing_turn, drained, DrainsIn}
use Rattle.queue_rows.specs.declared.tables.Tables.{Tables}
use Rattle.queue_rows.specs.declared.history.Entry.{Entry}
use Rattle.queue_rows.specs.declared.history.SessionScript.{SessionScript}
use Rattle.queue_rows.specs.declared.history.History.{History}

-- ---- turns, by the clock of the serial schedule

abbrev pub next_session_turn : ℕ → World → World
next_session_turn i w = session_turn (next_reading w) i w

abbrev pub next_timer_turn : World → World
next_timer_turn w = timer_turn (next_reading w) w

abbrev pub next_propagator_turn : World → World
next_propagator_turn w = propagator_turn (next_reading w) w

-- ---- rounds

-- f for each of so many sessions, in order
abbrev pub each : (ℕ → World → World) → ℕ → World → World
each f zero w = w
each f (suc n) w = f n (each f n w)

abbrev pub session_turns : World → World
session_turns w = each next_session_turn (length w.sessions) w

abbrev pub background_turns : World → World
background_turns w = next_propagator_turn (next_timer_turn w)

abbrev pub telling_turns : World → World
telling_turns w = each telling_turn (length w.sessions) w

unfoldable pub round : World → World
round w = telling_turns (background_turns (session_turns w))

unfoldable pub rounds : ℕ → World → World
rounds zero w = w
rounds (suc n) w = round (rounds n w)

-- after so many rounds no session is live
abbrev pub EndsIn : World → ℕ → Type 0
EndsIn w n = any_live (rounds n w) ≡ false

-- ---- the closing turn

-- the world in which it drains: it has read the clock
abbrev pub at_closing : World → World
at_closing w = read_clock (next_reading w) w

abbrev pub next_closing_turn : ℕ → World → World
next_closing_turn steps w = closing_turn (next_reading w) steps w

-- ---- histories

-- the history begins with these tables and scripts
pub record Begins (home away : Tables) (scripts : List SessionScript) (history : History) : Type 0 where
  pub home_is : history.home ≡ home
  pub away_is : history.away ≡ away
  pub opening_is : history.opening ≡ opening_moment home away
  pub scripts_are : history.scripts ≡ scripts

-- the entries are those of the serial schedule: its rounds go on while a session is live, and its closing turn until
-- nothing is due and nothing can be sent
pub record AreSerial (start : World) (entries : List Entry) : Type 0 where
  pub count : ℕ
  pub ends : EndsIn start count
  pub steps : ℕ
  pub drains : DrainsIn (at_closing (rounds count start)) steps
  pub entries_are : entries ≡ (next_closing_turn steps (rounds count start)).entries

-- the history is that of the serial schedule
pub record IsSerial (home away : Tables) (scripts : List SessionScript) (history : History) : Type 0 where
  pub begins : Begins home away scripts history
  pub turns : AreSerial (opened home away scripts) (map uncounted history.entries)

-- these are the first entries of some number of rounds; or of all rounds and some number of steps of the closing turn; or of
-- all rounds and the whole closing turn
pub data IsOnTheWay (start : World) (entries : List Entry) : Type 0 where
  in_rounds : (n : ℕ) → IsFront entries (rounds n start).entries → IsOnTheWay start entries
  in_closing : (n : ℕ) → EndsIn start n → (k : ℕ) → IsFront entries (drained k (at_closing (rounds n start))).entries → IsOnTheWay start entries
  in_all : (all : List Entry) → AreSerial start all → IsFront entries all → IsOnTheWay start entries

-- the history is a first part of that of the serial schedule
pub record IsSerialFront (home away : Tables) (scripts : List SessionScript) (history : History) : Type 0 where
  pub begins : Begins home away scripts history
  pub way : IsOnTheWay (opened home away scripts) (map uncounted history.entries)
