-- What is asked for, as a look of the definitions.
use Rattle.std.specs.Prelude.{◌≡◌, ◌<◌, ◌^◌, ℕ, List, true, None, map, length, option_copied, IfSome}
use Rattle.std.specs.List.{All}
use Rattle.std.specs.Str.{bytes_eq}
use Rattle.aq_base.specs.declared.DbId.TheVariants.{Home}
use Rattle.slot_marks.specs.Marks.{SessionMarks, marks_of, has_slot, has_group}
use Rattle.slot_marks.specs.declared.mark.Mark.{Mark}
use Rattle.queue_rows.specs.Groups.{group_of}
use Rattle.queue_rows.specs.Session.{Session, fresh_at, position_in}
use Rattle.queue_rows.specs.Tables.{empty_tables}
use Rattle.queue_rows.specs.Dequeueing.{Look}
use Rattle.queue_rows.specs.declared.rows.QueueRow.{QueueRow}
use Rattle.queue_rows.specs.declared.rows.TableRow.{TableRow}
use Rattle.queue_rows.specs.declared.rows.MsgRow.{MsgRow}
use Rattle.queue_rows.specs.declared.statement.Dequeue.{Dequeue}
use Rattle.queue_rows.specs.declared.statement.Visibility.TheVariants.{Immediate}
use Rattle.queue_rows.specs.Session.{AreMarks}
use Rattle.message_choice.specs.declared.asking.Asking.{Asking}
use Rattle.message_choice.specs.declared.asking.Pick.{Pick}

-- ---- which looks ask for it

-- the look is one of the session of that number that asks for the pick, where these are the messages, and where the locks hold
-- the marks of the sessions
pub record IsLookOf (pick : Pick) (number : ℕ) (locks : List SessionMarks) (ms : List MsgRow) (l : Look) : Type 0 where
  pub messages : l.tables.messages ≡ ms
  pub marks : AreMarks l.session.at l.sessions locks
  pub own : l.session.marks ≡ marks_of locks number
  pub actor : l.actor ≡ number
  pub queue : l.queue ≡ pick.queue.now
  pub table : l.table ≡ pick.table.now
  pub consumer : l.ask.consumer ≡ option_copied pick.consumer
  pub mode : l.ask.mode ≡ pick.mode
  pub navigation : l.ask.navigation ≡ pick.navigation
  pub position : position_in l.session l.ask.queue l.ask.consumer ≡ option_copied pick.position
  pub corr : l.ask.corr ≡ option_copied pick.corr
  pub condition : l.condition ≡ option_copied pick.condition

-- ---- the plainest one

abbrev pub session_of : List Mark → Session
session_of marks = record (fresh_at Home) { marks = marks }

-- sessions with the marks of the locks, each under its number, and with nothing else
abbrev pub sessions_of : List SessionMarks → List Session
sessions_of locks = map (λ s. session_of s.marks) locks

abbrev pub ask_of : Pick → Dequeue
ask_of pick = record {
  queue = pick.queue.now.name;
  consumer = option_copied pick.consumer;
  mode = pick.mode;
  navigation = pick.navigation;
  visibility = Immediate;
  wait = 0;
  msgid = None;
  corr = option_copied pick.corr;
  condition = None;
}

-- what is asked for, as a look of such sessions
abbrev pub look_of : Asking → Look
look_of a = record {
  tables = empty_tables;
  sessions = sessions_of a.locks.now;
  actor = a.actor;
  session = session_of (marks_of a.locks.now a.actor);
  queue = a.pick.now.queue.now;
  table = a.pick.now.table.now;
  ask = ask_of a.pick.now;
  condition = option_copied a.pick.now.condition;
}

-- ---- what holds of messages

-- the message's slots can be numbered, and where it stands in the queue and the session with these marks has one of its slots, it
-- has the slot's group too
pub record IsSound (marks : List Mark) (queue : QueueRow) (table : TableRow) (m : MsgRow) : Type 0 where
  pub slots : length m.slots < 2 ^ 32
  pub groups : bytes_eq m.queue queue.name ≡ true → (slot : ℕ) → has_slot m.id slot marks ≡ true
      → IfSome (group_of table m slot) (λ group. has_group group marks ≡ true)

-- so does each message
abbrev pub AreSound : List Mark → QueueRow → TableRow → List MsgRow → Type 0
AreSound marks queue table messages = All (IsSound marks queue table) messages

-- the message is sound for the session that asks
abbrev pub IsSoundFor : Asking → MsgRow → Type 0
IsSoundFor a m = IsSound (marks_of a.locks.now a.actor) a.pick.now.queue.now a.pick.now.table.now m

-- and so is each message
abbrev pub AreSoundFor : Asking → List MsgRow → Type 0
AreSoundFor a messages = AreSound (marks_of a.locks.now a.actor) a.pick.now.queue.now a.pick.now.table.now messages
