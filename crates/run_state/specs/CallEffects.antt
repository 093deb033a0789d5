-- What a call does to its session.
use Rattle.std.specs.Prelude.{◌≡◌, ◌<◌, ◌+◌, ◌^◌, ℕ, List, [], Option, None, IfSome}
use Rattle.aq_base.specs.declared.DbId.{DbId}
use Rattle.slot_marks.specs.declared.mark.Mark.{Mark}
use Rattle.queue_rows.specs.Session.{Session}
use Rattle.queue_rows.specs.Meaning.{Meaning, answers}
use Rattle.queue_rows.specs.Turns.{ids_taken, called}
use Rattle.queue_rows.specs.declared.change.Change.{Change}
use Rattle.queue_rows.specs.declared.history.Step.{Step}
use Rattle.queue_rows.specs.declared.history.Step.TheVariants.{Call}
use Rattle.queue_rows.specs.declared.session.Pending.{Pending}
use Rattle.queue_rows.specs.declared.session.Position.{Position}
use Rattle.sessions.specs.Effects.{pending_with, marks_with, marks_without, positions_after}
use Rattle.sessions.specs.declared.state.Effect.{Effect}
use Rattle.sessions.specs.declared.state.Verdict.TheVariants.{Answer}
use Rattle.queue_rows.specs.Sending.{home_of, away_of}
use Rattle.queue_rows.specs.World.{World, database_at, stepped}
use Rattle.session_registry.specs.Sessions.{positions_by, IsFreeIn, changed_at, after_call, left_by}
use Rattle.run_state.specs.declared.call_effect.CallEffect.{CallEffect}
use Rattle.run_state.specs.declared.call_effect.Holdings.{Holdings}
use Rattle.session_registry.specs.declared.new_positions.NewPositions.{NewPositions}
use Rattle.run_state.specs.declared.call_effect.Holdings.TheVariants.{Kept, Cleared}

abbrev pub pend_of : Holdings → Option Pending
pend_of (Kept pend mark unmark) = pend
pend_of Cleared = None

abbrev pub mark_of : Holdings → Option Mark
mark_of (Kept pend mark unmark) = mark
mark_of Cleared = None

abbrev pub pending_after : Holdings → List Pending → List Pending
pending_after (Kept pend mark unmark) pending = pending_with pend pending
pending_after Cleared pending = []

abbrev pub marks_after : Holdings → List Mark → List Mark
marks_after (Kept pend mark unmark) marks = marks_without unmark (marks_with mark marks)
marks_after Cleared marks = []

abbrev pub with_pended : Option Pending → Session → Session
with_pended pend s = record s { pending = pending_with pend s.pending }

abbrev pub with_marked : Option Mark → Session → Session
with_marked mark s = record s { marks = marks_with mark s.marks }

abbrev pub with_unmarked : Option Mark → Session → Session
with_unmarked unmark s = record s { marks = marks_without unmark s.marks }

-- the session with what it then holds
abbrev pub holding : Holdings → Session → Session
holding h s = record s { pending = pending_after h s.pending; marks = marks_after h s.marks }

-- the session with what the call does to it
abbrev pub done_by : CallEffect → Session → Session
done_by call s = record s {
  pending = pending_after call.holdings s.pending;
  marks = marks_after call.holdings s.marks;
  positions = positions_by call.positions s.positions;
  parked = None;
}

-- the world once the session of that number has made the call
abbrev pub called_with : ℕ → CallEffect → World → Session → World
called_with i call w s = called i s call.reply call.commit (done_by call s) w

-- the world with the entry of a call, whose session then holds this
abbrev pub entered_call : ℕ → World → List Change → List Change → Step → Holdings → World
entered_call i w home away step h = let v = stepped i w home away step in record v { sessions = changed_at i (holding h) v.sessions }

-- the world once the session of that number has called its next statement and has these positions, and these queues of its database are gone
abbrev pub closed_call : ℕ → World → DbId → NewPositions → List (List ℕ) → World
closed_call i w db positions gone = record w { sessions = left_by db gone (changed_at i (after_call positions w.home.made w.away.made) w.sessions) }

-- the world once the session of that number and database has made its call of that number, but for the ids that it takes
abbrev pub entered_as : ℕ → ℕ → DbId → CallEffect → List (List ℕ) → World → World
entered_as i number db call gone w =
    closed_call i (entered_call i w (home_of db call.commit []) (away_of db call.commit []) (Call number call.reply) call.holdings) db call.positions gone

-- the meaning of a statement that has this effect for a session
abbrev pub call_meant : CallEffect → Session → Meaning
call_meant call s = answers call.reply call.commit (done_by call s)

-- what is done and not committed comes with no commit
abbrev pub IsLater : CallEffect → Type 0
IsLater call = IfSome (pend_of call.holdings) (λ p. call.commit ≡ [])

-- where something is done and not committed, nothing is committed at home and at away
abbrev pub IsLaterThan : Option Pending → List Change → List Change → Type 0
IsLaterThan pend home away = IfSome pend (λ p. (home ≡ []) × (away ≡ []))

-- nobody else holds what is marked
abbrev pub IsFreeOf : World → ℕ → Holdings → Type 0
IsFreeOf w i holdings = IfSome (mark_of holdings) (λ mark. IsFreeIn i mark w.sessions)

-- The session can make the call: the statement can be counted and so can the ids that it takes; what is done and not committed comes with
-- no commit; and nobody else holds what is marked.
pub record IsCallable (w : World) (i : ℕ) (s : Session) (call : CallEffect) : Type 0 where
  pub early : s.next + 1 < 2 ^ 32
  pub ids : (database_at s.at w).next + ids_taken call.reply < 2 ^ 64
  pub later : IsLater call
  pub free : IsFreeOf w i call.holdings

-- ---- calls and the effects of statements

-- the call has the effect of a statement that asked for that queue and consumer, for a session with those positions
pub record IsCallOf (e : Effect) (queue : List ℕ) (consumer : Option (List ℕ)) (positions : List Position) (call : CallEffect) : Type 0 where
  pub answer : e.verdict ≡ Answer call.reply
  pub commit_is : call.commit ≡ e.commit
  pub holdings_are : call.holdings ≡ Kept e.pend e.mark e.unmark
  pub positions_are : positions_by call.positions positions ≡ positions_after e.position queue consumer positions
