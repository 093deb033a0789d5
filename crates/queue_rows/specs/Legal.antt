-- Which histories are legal, step by step.
use Rattle.std.specs.Prelude.{ℕ, ◌+◌, ◌-◌, ◌==◌, ◌&&◌, ◌||◌, ◌≡◌, ◌≤◌, List, [], ◌∷◌, ◌++◌, Bool, true, false, nat_lt, Option, Some, None, slice_get, map, length}
use Rattle.queue_rows.specs.Session.{Session, Untold}
use Rattle.queue_rows.specs.Meaning.{answers, parks}
use Rattle.queue_rows.specs.Statements.{meaning, next_statement}
use Rattle.queue_rows.specs.World.{World, opened, read_clock, stepped, with_session, uncounted}
use Rattle.queue_rows.specs.Propagating.{Arriving}
use Rattle.queue_rows.specs.Sending.{Sending, offers, arrives, confirms, next_sending, may_follow, sent}
use Rattle.queue_rows.specs.Turns.{is_due, timed, called, ended, is_durable, all_durable}
use Rattle.queue_rows.specs.Serial.{Begins}
use Rattle.queue_rows.specs.declared.tables.Tables.{Tables}
use Rattle.queue_rows.specs.declared.change.Change.{Change}
use Rattle.queue_rows.specs.declared.reply.Reply.{Reply}
use Rattle.queue_rows.specs.declared.statement.Statement.{Statement}
use Rattle.queue_rows.specs.declared.history.SlotRef.{SlotRef}
use Rattle.queue_rows.specs.declared.history.Arrival.{Arrival}
use Rattle.queue_rows.specs.declared.history.Step.{Step}
use Rattle.queue_rows.specs.declared.history.Step.TheVariants.{Call, Park, Timer, Offer, Arrive, Confirm, Told, Flush, End}
use Rattle.queue_rows.specs.declared.history.Entry.{Entry}
use Rattle.queue_rows.specs.declared.history.History.{History}
use Rattle.queue_rows.specs.declared.history.SessionScript.{SessionScript}

-- ---- readings

-- a flush, and what is told, may share the reading of what stands before
abbrev pub is_late : Step → Bool
is_late Flush = true
is_late (Told number) = true
is_late _ = false

-- the actor's own step may follow within its turn
abbrev pub is_first_of_turn : Step → Bool
is_first_of_turn Timer = true
is_first_of_turn Flush = true
is_first_of_turn _ = false

abbrev pub is_timely_after : Option Entry → ℕ → ℕ → Step → Bool
is_timely_after None readings actor step = nat_lt 0 readings
is_timely_after (Some e) readings actor step = nat_lt e.readings readings
    || (is_first_of_turn e.step && (e.actor == actor)) || ((e.actor == 66) && (actor == 66))

abbrev pub last_entry : List Entry → Option Entry
last_entry entries = slice_get entries (length entries - 1)

-- a step has a reading of its own, unless it may share that of the step before it
abbrev pub is_timely : World → ℕ → Step → Bool
is_timely w actor step = is_late step || is_timely_after (last_entry w.entries) w.readings actor step

-- ---- actors

-- the propagator (65) and the closing turn (66) send
abbrev pub is_sender : ℕ → Bool
is_sender actor = (actor == 65) || (actor == 66)

-- a session of the script, the timer (64), or one of those
abbrev pub is_actor : World → ℕ → Bool
is_actor w actor = nat_lt actor (length w.sessions) || (actor == 64) || is_sender actor

-- ---- steps

-- the session of that number goes on, and was told what it called; and no work is due
pub record IsReady (i : ℕ) (s : Session) (w : World) : Type 0 where
  pub there : slice_get w.sessions i ≡ Some s
  pub live : s.live ≡ true
  pub told : s.untold ≡ None
  pub calm : is_due w ≡ false

-- the next statement is called, and answered as it means
pub record Calls (i : ℕ) (s : Session) (statement : Statement) (reply : Reply) (cs : List Change) (after : Session) (w new : World) : Type 0 where
  pub ready : IsReady i s w
  pub next : next_statement w i s ≡ Some statement
  pub means : meaning w i s statement ≡ answers reply cs after
  pub result : new ≡ called i s reply cs after w

-- the next statement begins to wait
pub record Parks (i : ℕ) (s : Session) (statement : Statement) (since : ℕ) (w new : World) : Type 0 where
  pub ready : IsReady i s w
  pub once : s.parked ≡ None
  pub next : next_statement w i s ≡ Some statement
  pub means : meaning w i s statement ≡ parks since
  pub result : new ≡ with_session i (record s { parked = Some since }) (stepped i w [] [] (Park (s.next + 1)))

-- a session ends when all of its statements were called and told
pub record Ends (i : ℕ) (s : Session) (w new : World) : Type 0 where
  pub ready : IsReady i s w
  pub all : next_statement w i s ≡ None
  pub result : new ≡ ended i s w

-- a reply is told when every commit made up to its call is durable
pub record Tells (i : ℕ) (s : Session) (untold : Untold) (w new : World) : Type 0 where
  pub there : slice_get w.sessions i ≡ Some s
  pub called : s.untold ≡ Some untold
  pub home_durable : untold.home ≤ w.home.durable
  pub away_durable : untold.away ≤ w.away.durable
  pub result : new ≡ with_session i (record s { untold = None }) (stepped i w [] [] (Told untold.number))

-- work is due, and just this is done
pub record Times (actor : ℕ) (w new : World) : Type 0 where
  pub by : is_actor w actor ≡ true
  pub wanted : is_due w ≡ true
  pub result : new ≡ timed actor w

-- the step of propagation that comes next, when no work is due and what must be durable before it is
pub record Sends (actor : ℕ) (sending : Sending) (w new : World) : Type 0 where
  pub by : is_sender actor ≡ true
  pub calm : is_due w ≡ false
  pub next : next_sending w ≡ Some sending
  pub durable : may_follow w sending ≡ true
  pub result : new ≡ sent actor sending w

-- some commit is not durable, and then all are
pub record Flushes (actor : ℕ) (w new : World) : Type 0 where
  pub by : is_actor w actor ≡ true
  pub wanted : is_durable w ≡ false
  pub result : new ≡ all_durable (stepped actor w [] [] Flush)

pub record CallsSo (i number : ℕ) (reply : Reply) (w new : World) : Type 0 where
  pub session : Session
  pub statement : Statement
  pub changes : List Change
  pub after : Session
  pub number_is : number ≡ session.next + 1
  pub calls : Calls i session statement reply changes after w new

pub record ParksSo (i number : ℕ) (w new : World) : Type 0 where
  pub session : Session
  pub statement : Statement
  pub since : ℕ
  pub number_is : number ≡ session.next + 1
  pub parks : Parks i session statement since w new

pub record TellsSo (i number : ℕ) (w new : World) : Type 0 where
  pub session : Session
  pub untold : Untold
  pub number_is : number ≡ untold.number
  pub tells : Tells i session untold w new

pub record ArrivesSo (actor : ℕ) (at : SlotRef) (outcome : Arrival) (w new : World) : Type 0 where
  pub arriving : Arriving
  pub outcome_is : outcome ≡ arriving.outcome
  pub sends : Sends actor (arrives at arriving) w new

pub record ConfirmsSo (actor : ℕ) (at : SlotRef) (w new : World) : Type 0 where
  pub number : ℕ
  pub changes : List Change
  pub sends : Sends actor (confirms at number changes) w new

-- from w the actor may make this step, and go on to new
abbrev pub MayStep : ℕ → Step → World → World → Type 0
MayStep i (Call number reply) w new = CallsSo i number reply w new
MayStep i (Park number) w new = ParksSo i number w new
MayStep i (Told number) w new = TellsSo i number w new
MayStep i Flush w new = Flushes i w new
MayStep i End w new = (s : Session) × Ends i s w new
MayStep i Timer w new = Times i w new
MayStep i (Offer at to) w new = Sends i (offers at to) w new
MayStep i (Arrive at outcome) w new = ArrivesSo i at outcome w new
MayStep i (Confirm at) w new = ConfirmsSo i at w new

-- ---- worlds and histories

-- A world to which these readings of the clock and legal steps lead: the first one, or a legal one after a further
-- reading or step.
pub data IsLegal (start : World) : List ℕ → World → Type 0 where
  opens : IsLegal start [] start
  reads : (readings : List ℕ) (w : World) (reading : ℕ) → IsLegal start readings w → IsLegal start (readings ++ reading ∷ []) (read_clock reading w)
  steps : (readings : List ℕ) (w new : World) (actor : ℕ) (step : Step) → IsLegal start readings w → is_timely w actor step ≡ true → MayStep actor step w new → IsLegal start readings new

-- legal steps lead from these tables and scripts to these entries, by these readings
pub record IsLegalBy (readings : List ℕ) (home away : Tables) (scripts : List SessionScript) (history : History) : Type 0 where
  pub begins : Begins home away scripts history
  pub end : World
  pub entries_are : map uncounted history.entries ≡ end.entries
  pub legal : IsLegal (opened home away scripts) readings end

-- a history is legal where some readings make it so
abbrev pub IsLegalHistory : Tables → Tables → List SessionScript → History → Type 0
IsLegalHistory home away scripts history = (readings : List ℕ) × IsLegalBy readings home away scripts history
