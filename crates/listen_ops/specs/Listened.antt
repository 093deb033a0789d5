-- What a listen means for each session that asks so.
use Rattle.std.specs.Prelude.{◌≡◌, ℕ, List, Bool, true, false, Option, Some, None, option_copied, slice_get}
use Rattle.slot_marks.specs.Marks.{SessionMarks, marks_of}
use Rattle.queue_rows.specs.Session.{Session}
use Rattle.queue_rows.specs.Dequeueing.{Look, Choice, chosen, end_of_group, found, nothing}
use Rattle.queue_rows.specs.Listening.{is_served, listen, served_from}
use Rattle.queue_rows.specs.Valid.{is_valid}
use Rattle.queue_rows.specs.declared.tables.Tables.{Tables}
use Rattle.queue_rows.specs.declared.rows.TableRow.{TableRow}
use Rattle.queue_rows.specs.declared.rows.QueueRow.{QueueRow}
use Rattle.queue_rows.specs.declared.reply.Reply.{Reply}
use Rattle.queue_rows.specs.declared.reply.Reply.TheVariants as replies
use Rattle.queue_rows.specs.declared.statement.Listen.{Listen}
use Rattle.queue_rows.specs.declared.statement.Listener.{Listener}
use Rattle.queue_rows.specs.declared.statement.Mode.TheVariants.{Remove}
use Rattle.queue_rows.specs.declared.statement.Navigation.TheVariants.{First}
use Rattle.sessions.specs.Effects.{meant}
use Rattle.queue_rows.specs.Session.{AreMarks}
use Rattle.sessions.specs.States.{IsStateOf}
use Rattle.sessions.specs.declared.state.Effect.{Effect}
use Rattle.sessions.specs.declared.state.SessionState.{SessionState}
use Rattle.message_choice.specs.Asking.{IsLookOf}
use Rattle.message_choice.specs.Sound.{AreInGroups}
use Rattle.message_choice.specs.declared.asking.Pick.{Pick}

-- The effect is what the listen means for each session with that state, where the locks keep the marks of the sessions. A listen moves
-- no position, so it matters to none which queue and consumer are meant.
abbrev pub IsListen : Tables → List SessionMarks → ℕ → SessionState → Listen → ℕ → Effect → Type 0
IsListen t locks actor state ask moment e = (sessions : List Session) (s : Session) (queue : List ℕ) (consumer : Option (List ℕ))
    → IsStateOf state s → AreMarks s.at sessions locks → slice_get sessions actor ≡ Some s
    → listen t sessions actor s ask moment ≡ meant e queue consumer moment s

-- ---- within it

-- the tables are valid, and the session has with each slot that it has marked the slot's group
pub record CanListen (t : Tables) (locks : List SessionMarks) (actor : ℕ) : Type 0 where
  pub valid : is_valid t ≡ true
  pub groups : AreInGroups t (marks_of locks actor)

-- one of these sessions, with its marks as the locks keep them
pub record IsShown (locks : List SessionMarks) (actor : ℕ) (sessions : List Session) (s : Session) : Type 0 where
  pub marks : AreMarks s.at sessions locks
  pub own : s.marks ≡ marks_of locks actor

-- any message of the queue, for the agent
pub record IsPickOf (queue : QueueRow) (table : TableRow) (agent : Listener) (pick : Pick) : Type 0 where
  pub queue_is : pick.queue.now ≡ queue
  pub table_is : pick.table.now ≡ table
  pub consumer : option_copied pick.consumer ≡ agent.consumer
  pub mode : pick.mode ≡ Remove
  pub navigation : pick.navigation ≡ First
  pub position : option_copied pick.position ≡ None
  pub corr : option_copied pick.corr ≡ None
  pub condition : option_copied pick.condition ≡ None

abbrev pub is_found : Choice → Bool
is_found (found m) = true
is_found end_of_group = false
is_found nothing = false

-- each look that asks for the pick chooses a message, or each one nothing
abbrev pub IsFound : Tables → List SessionMarks → ℕ → Pick → Bool → Type 0
IsFound t locks actor pick it = (l : Look) → IsLookOf pick actor locks t.messages l → is_found (chosen l) ≡ it

-- whether the agent is served, for each such session
abbrev pub IsServed : Tables → List SessionMarks → ℕ → Listener → Bool → Type 0
IsServed t locks actor agent it = (sessions : List Session) (s : Session) → IsShown locks actor sessions s
    → is_served t sessions actor s agent ≡ it

-- which agent is served first, for each such session
abbrev pub ServesFirst : Tables → List SessionMarks → ℕ → List Listener → Option Reply → Type 0
ServesFirst t locks actor agents reply = (sessions : List Session) (s : Session) → IsShown locks actor sessions s
    → served_from 1 (is_served t sessions actor s) agents ≡ reply

abbrev pub agent_reply : ℕ → Listener → Reply
agent_reply number agent = replies.Agent (record { number = number; queue = agent.queue; consumer = agent.consumer })
