-- What a session asks, as a look of the definitions, and what an effect means for each session that asks so.
use Rattle.std.specs.Prelude.{◌≡◌, ◌≤◌, ◌^◌, ℕ, List, Bool, true, false, Option, Some, None, option_copied, slice_get, IfSome}
use Rattle.slot_marks.specs.Marks.{SessionMarks, IsFreeFor, marks_of}
use Rattle.queue_rows.specs.Rows.{find_queue, find_table}
use Rattle.queue_rows.specs.Groups.{group_of}
use Rattle.queue_rows.specs.Conditions.{optional_condition}
use Rattle.queue_rows.specs.Valid.{is_valid}
use Rattle.queue_rows.specs.Session.{Session}
use Rattle.queue_rows.specs.Meaning.{Meaning, refused}
use Rattle.queue_rows.specs.Dequeueing.{Look, chosen, dequeue, dequeue_by, dequeue_from, dequeue_typed, dequeue_where, given, given_by, given_named, is_browse, nothing_given}
use Rattle.queue_rows.specs.declared.tables.Tables.{Tables}
use Rattle.queue_rows.specs.declared.rows.TableRow.{TableRow}
use Rattle.queue_rows.specs.declared.rows.QueueRow.{QueueRow}
use Rattle.queue_rows.specs.declared.rows.MsgRow.{MsgRow}
use Rattle.queue_rows.specs.declared.reply.Reply.{Reply}
use Rattle.queue_rows.specs.declared.session.Position.{Position}
use Rattle.queue_rows.specs.declared.statement.Dequeue.{Dequeue}
use Rattle.sessions.specs.Effects.{meant, positions_after}
use Rattle.queue_rows.specs.Session.{AreMarks}
use Rattle.sessions.specs.States.{IsStateOf}
use Rattle.sessions.specs.declared.state.Effect.{Effect}
use Rattle.sessions.specs.declared.state.PositionMove.{PositionMove}
use Rattle.sessions.specs.declared.state.SessionState.{SessionState}
use Rattle.message_choice.specs.Asking.{AreSound, IsLookOf, IsSound}
use Rattle.message_choice.specs.Sound.{AreInGroups}
use Rattle.message_choice.specs.Wanted.{IsSlotFor, chosen_by}
use Rattle.message_choice.specs.declared.asking.Choice.{Choice}
use Rattle.message_choice.specs.declared.asking.Pick.{Pick}
use Rattle.dequeue_ops.specs.declared.request.Request.{Request}
use Rattle.dequeue_ops.specs.declared.request.Asked.{Asked}

-- ---- the whole call

-- the effect is what the dequeue means for each session with that state, where the locks keep the marks of the sessions
abbrev pub IsDequeue : Tables → List SessionMarks → ℕ → SessionState → Dequeue → ℕ → Effect → Type 0
IsDequeue t locks actor state ask moment e = (sessions : List Session) (s : Session)
    → IsStateOf state s → AreMarks s.at sessions locks → slice_get sessions actor ≡ Some s
    → dequeue t sessions actor s ask moment ≡ meant e ask.queue ask.consumer moment s

-- ---- within it

-- the session of that number asks, with that state, beside these marks
pub record IsAsking (r : Request) (sessions : List Session) (s : Session) : Type 0 where
  pub state : IsStateOf r.session.now s
  pub marks : AreMarks s.at sessions r.locks.now
  pub there : slice_get sessions r.actor ≡ Some s

-- for each session that asks so the effect is what is meant; and a mark that comes is on a slot that is free for it
pub record Does (r : Request) (meaning : List Session → Session → Meaning) (e : Effect) : Type 0 where
  pub means : (sessions : List Session) (s : Session) → IsAsking r sessions s → meaning sessions s ≡ meant e r.ask.now.queue r.ask.now.consumer r.moment s
  pub free : IfSome e.mark (IsFreeFor r.locks.now r.actor)

abbrev pub refusal : Reply → List Session → Session → Meaning
refusal reply sessions s = refused s reply

-- what the session asks, in these tables
abbrev pub as_asked : Tables → Request → List Session → Session → Meaning
as_asked t r sessions s = dequeue_from t sessions r.actor s (find_queue t r.ask.now.queue) r.ask.now r.moment

abbrev pub in_table : Tables → Request → QueueRow → List Session → Session → Meaning
in_table t r queue sessions s = dequeue_typed t sessions r.actor s queue (find_table t queue.table) r.ask.now r.moment

abbrev pub on_condition : Tables → Request → QueueRow → TableRow → List Session → Session → Meaning
on_condition t r queue table sessions s =
    dequeue_where t sessions r.actor s queue table r.ask.now (optional_condition table.fields r.ask.now.condition) r.moment

-- the tables are valid, the moment is none past the greatest, and the session has with each slot that it has marked the slot's group
pub record CanDequeue (t : Tables) (r : Request) : Type 0 where
  pub valid : is_valid t ≡ true
  pub moment : r.moment ≤ 2 ^ 62
  pub groups : AreInGroups t (marks_of r.locks.now r.actor)

-- ---- where it is not refused

abbrev pub look_of : Tables → Asked → List Session → Session → Look
look_of t a sessions s = record {
  tables = t;
  sessions = sessions;
  actor = a.request.now.actor;
  session = s;
  queue = a.queue.now;
  table = a.table.now;
  ask = a.request.now.ask.now;
  condition = option_copied a.condition;
}

abbrev pub by_request : Tables → Asked → List Session → Session → Meaning
by_request t a sessions s = dequeue_by (look_of t a sessions s) a.request.now.moment a.request.now.ask.now.msgid

abbrev pub by_name : Tables → Asked → Option MsgRow → List Session → Session → Meaning
by_name t a m sessions s = given_named (look_of t a sessions s) a.request.now.moment m

abbrev pub by_choice : Tables → Asked → List Session → Session → Meaning
by_choice t a sessions s = given_by (look_of t a sessions s) a.request.now.moment (chosen (look_of t a sessions s))

abbrev pub by_nothing : Tables → Asked → List Session → Session → Meaning
by_nothing t a sessions s = nothing_given (look_of t a sessions s) a.request.now.moment

-- where the session stands then, waiting no more
abbrev pub moved : Asked → PositionMove → Session → Session
moved a position s = record s { positions = positions_after position a.request.now.ask.now.queue a.request.now.ask.now.consumer s.positions; parked = None }

abbrev pub giving : Tables → Asked → PositionMove → MsgRow → ℕ → List Session → Session → Meaning
giving t a position m slot sessions s = given (look_of t a sessions s) (moved a position s) a.request.now.moment m slot

-- no other session has the slot or its group, unless it is only browsed
abbrev pub IsFreeToGive : Asked → MsgRow → ℕ → Type 0
IsFreeToGive a m slot = is_browse a.request.now.ask.now.mode ≡ false → (removed : Bool)
    → IsFreeFor a.request.now.locks.now a.request.now.actor (record { id = m.id; slot = slot; removed = removed; group = group_of a.table.now m slot })

-- ---- what is asked of the choice

-- a session with the marks that the locks hold for it, and with its positions
pub record IsShown (a : Asked) (sessions : List Session) (s : Session) : Type 0 where
  pub marks : AreMarks s.at sessions a.request.now.locks.now
  pub own : s.marks ≡ marks_of a.request.now.locks.now a.request.now.actor
  pub positions : s.positions ≡ a.request.now.session.now.positions

-- each look of such a session asks for the pick
abbrev pub IsPickOf : Asked → Pick → Type 0
IsPickOf a pick = (t : Tables) (sessions : List Session) (s : Session) → IsShown a sessions s
    → IsLookOf pick a.request.now.actor a.request.now.locks.now t.messages (look_of t a sessions s)

-- each look of such a session chooses so, with that slot
abbrev pub IsChosen : Tables → Asked → Choice → Type 0
IsChosen t a c = (sessions : List Session) (s : Session) → IsShown a sessions s
    → (chosen (look_of t a sessions s) ≡ chosen_by c) × IsSlotFor (look_of t a sessions s) c

-- the session has, with a slot of the message, the slot's group too
abbrev pub IsSoundFor : Asked → MsgRow → Type 0
IsSoundFor a m = IsSound (marks_of a.request.now.locks.now a.request.now.actor) a.queue.now a.table.now m

abbrev pub AreSoundFor : Asked → List MsgRow → Type 0
AreSoundFor a messages = AreSound (marks_of a.request.now.locks.now a.request.now.actor) a.queue.now a.table.now messages

-- where the session stands that is given the message
abbrev pub position_at : Request → MsgRow → Position
position_at r m = record { queue = r.ask.now.queue; consumer = r.ask.now.consumer; place = m.place; group = m.group }
