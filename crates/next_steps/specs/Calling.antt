-- Who calls a statement, in which world, and what it does.
use Rattle.std.specs.Prelude.{◌≡◌, ◌≤◌, ◌^◌, ℕ, List, true, Option, None, Some, IfSome, slice_get}
use Rattle.std.specs.List.{AllZip}
use Rattle.slot_marks.specs.Marks.{IsFreeFor}
use Rattle.slot_marks.specs.declared.mark.Mark.{Mark}
use Rattle.queue_rows.specs.Meaning.{Meaning, parks}
use Rattle.queue_rows.specs.Session.{Session}
use Rattle.queue_rows.specs.Within.{is_within}
use Rattle.queue_rows.specs.declared.statement.Statement.{Statement}
use Rattle.sessions.specs.Effects.{meant}
use Rattle.queue_rows.specs.Session.{AreMarks}
use Rattle.sessions.specs.States.{IsStateOf}
use Rattle.sessions.specs.declared.state.Effect.{Effect}
use Rattle.sessions.specs.declared.state.SessionState.{SessionState}
use Rattle.queue_rows.specs.Statements.{meaning, slot_sent}
use Rattle.queue_rows.specs.World.{World, database_at}
use Rattle.run_state.specs.CallEffects.{call_meant, mark_of}
use Rattle.next_steps.specs.Sound.{IsSound}
use Rattle.next_steps.specs.declared.respond.Caller.{Caller}
use Rattle.next_steps.specs.declared.respond.Doing.{Doing}
use Rattle.next_steps.specs.declared.respond.Doing.TheVariants.{Call, Wait}

-- who calls is this session of the world
pub record IsCallerIn (c : Caller) (w : World) (s : Session) : Type 0 where
  pub there : slice_get w.sessions c.actor ≡ Some s
  pub state : IsStateOf c.session.now s
  pub states : AllZip IsStateOf c.sessions.now w.sessions
  pub marks : AreMarks s.at w.sessions c.locks.now
  pub database : database_at s.at w ≡ c.database.now
  pub moment : w.moment ≡ c.moment
  pub sent : slot_sent w ≡ c.sent

-- it is a session of a sound world, and the statement is one that may be asked
pub record MayCall (c : Caller) (statement : Statement) : Type 0 where
  pub world : World
  pub session : Session
  pub is : IsCallerIn c world session
  pub sound : IsSound world
  pub within : is_within statement ≡ true
  pub early : session.next ≤ 2 ^ 31

-- what is done means this for a session
abbrev pub doing_meant : Doing → Session → Meaning
doing_meant (Call call) s = call_meant call s
doing_meant (Wait since) s = parks since

-- the mark that the session gets
abbrev pub mark_in : Doing → Option Mark
mark_in (Call call) = mark_of call.holdings
mark_in (Wait since) = None

-- it does what the effect of a statement means that asked for that queue and consumer, for the session of that state
abbrev pub Does : Effect → List ℕ → Option (List ℕ) → ℕ → SessionState → Doing → Type 0
Does e queue consumer moment state doing = (s : Session) → IsStateOf state s → meant e queue consumer moment s ≡ doing_meant doing s

-- it is what the statement means in each such world
abbrev pub MeansAs : Caller → Statement → Doing → Type 0
MeansAs c statement doing = (w : World) (s : Session) → IsCallerIn c w s → meaning w c.actor s statement ≡ doing_meant doing s

-- no other session has the slot that is marked, nor its group
abbrev pub IsFreeDoing : Caller → Doing → Type 0
IsFreeDoing c doing = IfSome (mark_in doing) (IsFreeFor c.locks.now c.actor)
