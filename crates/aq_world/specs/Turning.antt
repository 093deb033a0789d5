-- The turns of actors: sessions by their numbers, the timer (64) and the propagator (65); and how each ends.
use Rattle.std.specs.Prelude.{◌≡◌, ◌⊎◌, ◌&&◌, ◌||◌, ◌==◌, ◌<◌, ℕ, Bool, true, false, not, nat_lt, length, Option, Some, None, is_none, is_some, option_map, slice_get, if◌then◌else◌}
use Rattle.queue_rows.specs.Order.{IsFront}
use Rattle.queue_rows.specs.Session.{Session, Untold}
use Rattle.queue_rows.specs.Meaning.{Meaning, answers, parks}
use Rattle.queue_rows.specs.Statements.{meaning, next_statement}
use Rattle.queue_rows.specs.Sending.{Sending, may_follow, next_sending}
use Rattle.queue_rows.specs.World.{World, read_clock}
use Rattle.queue_rows.specs.Turns.{session_turn, timer_turn, propagator_turn, any_live, is_due, is_durable, caught_up, begun, flushed, drained, DrainsIn}
use Rattle.run_laws.specs.ValidRun.{IsValidWorld}
use Rattle.run_state.specs.Entries.{IsUntold}
use Rattle.durable_state.specs.declared.broken.Broken.{Broken}
use Rattle.durable_state.specs.declared.broken.Broken.TheVariants as reasons
use Rattle.aq_world.specs.declared.turn_end.TurnEnd.{TurnEnd}
use Rattle.aq_world.specs.declared.turn_end.TurnEnd.TheVariants as ends

abbrev pub is_session : ℕ → Bool
is_session actor = nat_lt actor 64

-- a session that there is, the timer or the propagator
abbrev pub IsActor : World → ℕ → Type 0
IsActor w actor = (actor < length w.sessions) ⊎ ((actor ≡ 64) ⊎ (actor ≡ 65))

-- the world after the actor's turn, with the reading that it takes, if it takes one
abbrev pub turned : ℕ → ℕ → World → World
turned reading actor w = if is_session actor then session_turn reading actor w
    else (if actor == 64 then timer_turn reading w else propagator_turn reading w)

-- ---- which turns take a reading

-- a session that was told all, and goes on no more
abbrev pub is_over : Option Session → Bool
is_over None = true
is_over (Some s) = not s.live && is_none s.untold

-- the actor takes no turn any more
abbrev pub has_ended : ℕ → World → Bool
has_ended actor w = if is_session actor then is_over (slice_get w.sessions actor) else not (any_live w)

-- the session of that number is to be told the reply to what it called
abbrev pub is_owed : Option Session → Bool
is_owed None = false
is_owed (Some s) = is_some s.untold

-- its turn takes a reading: it has not ended, and is not to be told anything
abbrev pub reads_clock : ℕ → World → Bool
reads_clock actor w = not (has_ended actor w) && not (is_session actor && is_owed (slice_get w.sessions actor))

-- ---- how a turn ends

-- what a session would call next, as it is answered
abbrev pub next_meaning : World → ℕ → Session → Option Meaning
next_meaning w i s = option_map (meaning w i s) (next_statement w i s)

-- a session makes its own entry, unless it waits
abbrev pub end_by : Option Meaning → TurnEnd
end_by None = ends.Done
end_by (Some (answers reply cs after)) = ends.Done
end_by (Some (parks since)) = ends.Parked

abbrev pub session_end : ℕ → ℕ → Option Session → World → TurnEnd
session_end reading i None w = ends.Ended
session_end reading i (Some s) w = if is_some s.untold then ends.Done
    else (if s.live then end_by (next_meaning (begun i reading w) i s) else ends.Ended)

-- the timer is done where work is due
abbrev pub timer_end : ℕ → World → TurnEnd
timer_end reading w = if is_due (read_clock reading w) then ends.Done else ends.Idle

-- the propagator is done where work is due, or a step can be made, after a flush if need be
abbrev pub propagator_end : ℕ → World → TurnEnd
propagator_end reading w = if is_due (read_clock reading w) || is_some (next_sending (begun 65 reading w)) then ends.Done else ends.Idle

abbrev pub background_end : ℕ → ℕ → World → TurnEnd
background_end reading actor w = if not (any_live w) then ends.Ended
    else (if actor == 64 then timer_end reading w else propagator_end reading w)

-- how the actor's turn ends, with that reading
unfoldable pub turn_end : ℕ → ℕ → World → TurnEnd
turn_end reading actor w = if is_session actor then session_end reading actor (slice_get w.sessions actor) w else background_end reading actor w

-- the turn came to its end
abbrev pub IsWhole : TurnEnd → Type 0
IsWhole ends.Done = Unit {0}
IsWhole ends.Parked = Unit {0}
IsWhole ends.Idle = Unit {0}
IsWhole ends.Ended = Unit {0}
IsWhole ends.Halted = ⊥
IsWhole ends.Memory = ⊥

-- ---- turns that are broken off

-- how it is told why
abbrev pub broken_end : Broken → TurnEnd
broken_end reasons.Memory = ends.Memory
broken_end reasons.Halted = ends.Halted

-- another turn was broken off: at most the clock was read, what was due was done, and commits were made durable
abbrev pub IsUndone : ℕ → ℕ → World → World → Type 0
IsUndone actor reading old new = (new ≡ read_clock reading old) ⊎ ((new ≡ begun actor reading old) ⊎ (new ≡ flushed actor (begun actor reading old)))

abbrev pub broken_if : Bool → ℕ → ℕ → World → World → Type 0
broken_if true actor reading old new = IsUndone actor reading old new
broken_if false actor reading old new = IsUntold actor old new

-- a telling turn takes no reading
abbrev pub IsBrokenOff : ℕ → ℕ → World → World → Type 0
IsBrokenOff actor reading old new = broken_if (reads_clock actor old) actor reading old new

-- the session of that number is to be told the reply to what it called, which is its statement of that number
pub record IsOwed (w : World) (i number : ℕ) : Type 0 where
  pub session : Session
  pub untold : Untold
  pub there : slice_get w.sessions i ≡ Some session
  pub called : session.untold ≡ Some untold
  pub number_is : untold.number ≡ number

-- the session of that number goes on, and was told what it called
pub record IsCalling (w : World) (i : ℕ) : Type 0 where
  pub session : Session
  pub there : slice_get w.sessions i ≡ Some session
  pub told : session.untold ≡ None
  pub live : session.live ≡ true

-- ---- the closing turn

-- the closing turn was broken off: there are the first entries of some number of its steps
abbrev pub IsUnclosed : ℕ → World → World → Type 0
IsUnclosed reading old new = (n : ℕ) × IsFront new.entries (drained n (read_clock reading old)).entries

-- a step of it was broken off: at most what was due was done, and then commits were made durable
abbrev pub IsPartOfStep : World → World → Type 0
IsPartOfStep old new = (new ≡ old) ⊎ IsUntold 66 (caught_up 66 old) new

-- its draining was, behind so many steps
abbrev pub IsPartDrained : World → World → Type 0
IsPartDrained old new = (n : ℕ) × IsPartOfStep (drained n old) new

-- a step of propagation comes next for which a commit must be durable that is not
pub record IsSendingDue (w : World) : Type 0 where
  pub sending : Sending
  pub next : next_sending w ≡ Some sending
  pub waits : may_follow w sending ≡ false
  pub undurable : is_durable w ≡ false

-- a flush was due, behind so many steps: what was due was done and a step of propagation waits for it; or all is drained, and a commit is not
-- durable
abbrev pub IsFlushDue : ℕ → World → World → Type 0
IsFlushDue reading old new = (n : ℕ) × (((new ≡ caught_up 66 (drained n (read_clock reading old))) × IsSendingDue new)
    ⊎ (DrainsIn (read_clock reading old) n × (new ≡ drained n (read_clock reading old)) × (is_durable new ≡ false)))

-- each world to which the draining leads is valid
abbrev pub IsDrainable : World → Type 0
IsDrainable w = (n : ℕ) → IsValidWorld (drained n w)

-- ---- how a run began

-- with these databases, at this moment and for these scripts: no turn changes that
pub record IsOfRun (old new : World) : Type 0 where
  pub home : new.home.opening ≡ old.home.opening
  pub away : new.away.opening ≡ old.away.opening
  pub opening : new.opening ≡ old.opening
  pub scripts : new.scripts ≡ old.scripts
