-- What a dequeue means: which message it gives, and what becomes of it.
use Rattle.std.specs.Prelude.{ℕ, ◌+◌, ◌==◌, ◌&&◌, ◌||◌, pos, int_lt, List, [], ◌∷◌, ◌++◌, Bool, true, false, not, Option, Some, None, is_some, is_none, option_map, fold, filter, position, Result, Ok, Err, if◌then◌else◌}
use Rattle.std.specs.Option.{option_map_or}
use Rattle.std.specs.Str.{bytes_eq, chars}
use Rattle.place_keys.specs.Place.{stands_before}
use Rattle.rule_conditions.specs.Like.{is_like}
use Rattle.rule_conditions.specs.declared.condition.Cond.{Cond}
use Rattle.slot_marks.specs.Marks.{taken}
use Rattle.slot_marks.specs.declared.mark.Mark.{Mark}
use Rattle.queue_rows.specs.Rows.{find_table, find_queue, slot_of}
use Rattle.queue_rows.specs.Tables.{lane_of}
use Rattle.queue_rows.specs.Settling.{is_exception, is_open, is_ready}
use Rattle.queue_rows.specs.Commits.{commit_of}
use Rattle.queue_rows.specs.Groups.{group_of}
use Rattle.queue_rows.specs.Conditions.{is_met, optional_condition}
use Rattle.queue_rows.specs.Recipients.{has_consumers}
use Rattle.queue_rows.specs.Session.{Session, is_same_consumer, is_held, holder, has_removed, without_mark, is_position, position_in, positioned, message_named}
use Rattle.queue_rows.specs.Meaning.{Meaning, answers, parks, unparked, refused, first_look, still_waits}
use Rattle.queue_rows.specs.declared.tables.Tables.{Tables}
use Rattle.queue_rows.specs.declared.rows.TableRow.{TableRow}
use Rattle.queue_rows.specs.declared.rows.QueueRow.{QueueRow}
use Rattle.queue_rows.specs.declared.rows.MsgRow.{MsgRow}
use Rattle.queue_rows.specs.declared.rows.SlotRow.{SlotRow}
use Rattle.queue_rows.specs.declared.session.Pending.TheVariants.{Remove}
use Rattle.queue_rows.specs.declared.session.Position.{Position}
use Rattle.queue_rows.specs.declared.reply.Reply.{Reply}
use Rattle.queue_rows.specs.declared.reply.Reply.TheVariants as replies
use Rattle.queue_rows.specs.declared.reply.ConditionFault.{ConditionFault}
use Rattle.queue_rows.specs.declared.reply.Shown.{Shown}
use Rattle.queue_rows.specs.declared.statement.Dequeue.{Dequeue}
use Rattle.queue_rows.specs.declared.statement.MsgId.{MsgId}
use Rattle.queue_rows.specs.declared.statement.Mode.{Mode}
use Rattle.queue_rows.specs.declared.statement.Mode.TheVariants as modes
use Rattle.queue_rows.specs.declared.statement.Navigation.{Navigation}
use Rattle.queue_rows.specs.declared.statement.Navigation.TheVariants as navigations
use Rattle.queue_rows.specs.declared.statement.Visibility.{Visibility}
use Rattle.queue_rows.specs.declared.statement.Visibility.TheVariants as visibilities

-- what a dequeue looks at: the tables, all sessions, which of them asks, its queue and the queue's table, what it asks, and
-- the condition that this names
pub record Look : Type 0 where
  pub tables : Tables
  pub sessions : List Session
  pub actor : ℕ
  pub session : Session
  pub queue : QueueRow
  pub table : TableRow
  pub ask : Dequeue
  pub condition : Option Cond

-- ---- slots

abbrev pub is_local_for : List ℕ → SlotRow → Bool
is_local_for consumer s = is_same_consumer s.name (Some consumer) && is_none s.address

abbrev pub slot_number : Option ℕ → Option ℕ
slot_number at = option_map (λ i. i + 1) at

-- the slot that a consumer may take of a message: slot 0 in an exception queue, the consumer's local slot where there
-- are many, and else the one slot
abbrev pub slot_for : QueueRow → Option (List ℕ) → MsgRow → Option ℕ
slot_for queue None m = if is_exception queue.kind then Some 0 else Some 1
slot_for queue (Some consumer) m = slot_number (position (is_local_for consumer) m.slots)

abbrev pub slot_in : Look → MsgRow → Option ℕ
slot_in l m = slot_for l.queue l.ask.consumer m

abbrev pub is_browse : Mode → Bool
is_browse modes.Remove = false
is_browse modes.Browse = true
is_browse modes.Locked = false
is_browse modes.RemoveNodata = false

abbrev pub is_free : Look → MsgRow → ℕ → Bool
is_free l m slot = is_browse l.ask.mode || not (is_held l.sessions l.actor l.session.at m.id slot (group_of l.table m slot))

abbrev pub is_ready_slot : Option SlotRow → Bool
is_ready_slot None = false
is_ready_slot (Some s) = is_ready s.state

-- the slot is ready, the session has not removed it, and it is not held by another, unless it is only browsed
abbrev pub is_available_slot : Look → MsgRow → Option ℕ → Bool
is_available_slot l m None = false
is_available_slot l m (Some slot) = is_ready_slot (slot_of m slot) && not (has_removed l.session m.id slot) && is_free l m slot

abbrev pub is_available : Look → MsgRow → Bool
is_available l m = bytes_eq m.queue l.queue.name && is_available_slot l m (slot_in l m)

-- ---- criteria

-- the correlation is like the pattern, where there is one; a null correlation is like none
abbrev pub meets_corr : Option (List ℕ) → Option (List ℕ) → Bool
meets_corr None corr = true
meets_corr (Some pattern) corr = option_map_or (λ text. is_like (chars pattern) (chars text)) corr false

-- the message has a correlation as is asked for, and the condition is true of it
abbrev pub meets : Look → MsgRow → Bool
meets l m = meets_corr l.ask.corr m.facts.corr && is_met l.table.fields m.facts l.condition

-- the messages that the dequeue may give
abbrev pub candidates : Look → List MsgRow
candidates l = filter (λ m. is_available l m && meets l m) l.tables.messages

-- ---- which of them

abbrev pub nearer : Option MsgRow → MsgRow → Option MsgRow
nearer None m = Some m
nearer (Some best) m = if stands_before m.place best.place then Some m else Some best

-- the one with the least place
abbrev pub least : List MsgRow → Option MsgRow
least ms = fold nearer None ms

abbrev pub is_past : Position → MsgRow → Bool
is_past p m = stands_before p.place m.place

abbrev pub past : Position → List MsgRow → List MsgRow
past p ms = filter (is_past p) ms

abbrev pub of_group : Position → List MsgRow → List MsgRow
of_group p ms = filter (λ m. m.group == p.group) ms

-- the lanes above the position's group
abbrev pub past_group : Position → List MsgRow → List MsgRow
past_group p ms = filter (λ m. int_lt (pos p.group) (lane_of m.place)) ms

pub data Choice : Type 0 where
  found : MsgRow → Choice
  end_of_group : Choice
  nothing : Choice

abbrev pub found_or : Choice → Option MsgRow → Choice
found_or else_is None = else_is
found_or else_is (Some m) = found m

-- behind the position, and where nothing is there, from the beginning, unless it is only browsed
abbrev pub next_or_first : Mode → Position → List MsgRow → Choice
next_or_first mode p ms = found_or (if is_browse mode then nothing else found_or nothing (least ms)) (least (past p ms))

abbrev pub choice : Navigation → Option Position → Bool → Mode → List MsgRow → Choice
choice navigations.First p grouped mode ms = found_or nothing (least ms)
choice navigations.Next None grouped mode ms = found_or nothing (least ms)
choice navigations.Next (Some p) grouped mode ms = if grouped then found_or end_of_group (least (past p (of_group p ms))) else next_or_first mode p ms
choice navigations.NextTransaction None grouped mode ms = found_or nothing (least ms)
choice navigations.NextTransaction (Some p) grouped mode ms = found_or nothing (least (past_group p ms))

abbrev pub chosen : Look → Choice
chosen l = choice l.ask.navigation (position_in l.session l.ask.queue l.ask.consumer) l.table.grouped l.ask.mode (candidates l)

-- ---- what becomes of it

abbrev pub shown_in : Mode → TableRow → MsgRow → Option Shown
shown_in modes.Remove table m = Some (record { kind = table.fields; cells = m.facts.cells })
shown_in modes.Browse table m = Some (record { kind = table.fields; cells = m.facts.cells })
shown_in modes.Locked table m = Some (record { kind = table.fields; cells = m.facts.cells })
shown_in modes.RemoveNodata table m = None

abbrev pub retries_of : MsgRow → ℕ → ℕ
retries_of m slot = option_map_or (λ s. s.retries) (slot_of m slot) 0

abbrev pub message_reply : Look → MsgRow → ℕ → Reply
message_reply l m slot = replies.Message (record {
  id = record { db = l.session.at; number = m.id };
  priority = m.facts.priority;
  retries = retries_of m slot;
  corr = m.facts.corr;
  payload = shown_in l.ask.mode l.table m;
  props = m.facts.props;
})

-- taken as a transaction of its own: the slot is done, and the session's own mark on it goes
abbrev pub taken_at_once : Look → Session → ℕ → MsgRow → ℕ → Meaning
taken_at_once l s moment m slot = answers (message_reply l m slot) (commit_of l.tables moment (Remove m.id slot ∷ []))
    (record s { marks = without_mark m.id slot s.marks })

-- the session's mark on the slot, with which it removes it or only locks it
abbrev pub mark_on : Look → Bool → MsgRow → ℕ → Mark
mark_on l removed m slot = record { id = m.id; slot = slot; removed = removed; group = group_of l.table m slot }

-- taken when the session commits: until then the slot is marked as removed
abbrev pub taken_later : Look → Session → MsgRow → ℕ → Meaning
taken_later l s m slot = answers (message_reply l m slot) []
    (record s { marks = taken s.marks (mark_on l true m slot); pending = s.pending ++ Remove m.id slot ∷ [] })

-- no other session can take it until this one ends its transaction
abbrev pub locked : Look → Session → MsgRow → ℕ → Meaning
locked l s m slot = answers (message_reply l m slot) [] (record s { marks = taken s.marks (mark_on l false m slot) })

-- it is shown, and stays as it is
abbrev pub shown : Look → Session → MsgRow → ℕ → Meaning
shown l s m slot = answers (message_reply l m slot) [] s

-- the slot is given to the session, which then stands as s says
abbrev pub given_in : Mode → Visibility → Look → Session → ℕ → MsgRow → ℕ → Meaning
given_in modes.Remove visibilities.Immediate l s moment m slot = taken_at_once l s moment m slot
given_in modes.RemoveNodata visibilities.Immediate l s moment m slot = taken_at_once l s moment m slot
given_in modes.Browse visibility l s moment m slot = shown l s m slot
given_in modes.Locked visibilities.Immediate l s moment m slot = shown l s m slot
given_in modes.Remove visibilities.OnCommit l s moment m slot = taken_later l s m slot
given_in modes.RemoveNodata visibilities.OnCommit l s moment m slot = taken_later l s m slot
given_in modes.Locked visibilities.OnCommit l s moment m slot = locked l s m slot

abbrev pub given : Look → Session → ℕ → MsgRow → ℕ → Meaning
given l s moment m slot = given_in l.ask.mode l.ask.visibility l s moment m slot

-- ---- by navigation

-- the session stands at the message that it was given, and no longer waits
abbrev pub standing_at : Look → MsgRow → Session
standing_at l m = record l.session {
  positions = positioned (record { queue = l.ask.queue; consumer = l.ask.consumer; place = m.place; group = m.group }) l.session.positions;
  parked = None;
}

-- a message that is chosen has its slot
abbrev pub given_chosen : Look → ℕ → MsgRow → Option ℕ → Meaning
given_chosen l moment m None = refused l.session replies.NoMessage
given_chosen l moment m (Some slot) = given l (standing_at l m) moment m slot

-- looking from the beginning, the session no longer stands anywhere in the queue
abbrev pub forgetting : Navigation → Dequeue → Session → Session
forgetting navigations.First ask s = record s { positions = filter (λ p. not (is_position ask.queue ask.consumer p)) s.positions }
forgetting navigations.Next ask s = s
forgetting navigations.NextTransaction ask s = s

-- with nothing to give, the session waits, or is told so
abbrev pub nothing_given : Look → ℕ → Meaning
nothing_given l moment = if still_waits l.session l.ask.wait moment then parks (first_look l.session moment)
    else refused (forgetting l.ask.navigation l.ask l.session) replies.NoMessage

abbrev pub given_by : Look → ℕ → Choice → Meaning
given_by l moment (found m) = given_chosen l moment m (slot_in l m)
given_by l moment end_of_group = refused l.session replies.EndOfGroup
given_by l moment nothing = nothing_given l moment

-- ---- by msgid

-- it can be taken, now or later
abbrev pub is_open_slot : Option SlotRow → Bool
is_open_slot None = false
is_open_slot (Some s) = is_open s.state

-- the other session that holds the slot; who only browses meets none
abbrev pub holder_for : Look → MsgRow → ℕ → Option ℕ
holder_for l m slot = if is_browse l.ask.mode then None
    else holder l.sessions l.actor l.session.at m.id slot (group_of l.table m slot)

-- the slot is given where no other holds it, and the session stands where it stood
abbrev pub given_unheld : Look → ℕ → MsgRow → ℕ → Option ℕ → Meaning
given_unheld l moment m slot (Some other) = refused l.session (replies.Held other)
given_unheld l moment m slot None = given l (unparked l.session) moment m slot

abbrev pub given_slot : Look → ℕ → MsgRow → Option ℕ → Meaning
given_slot l moment m None = refused l.session replies.NotARecipient
given_slot l moment m (Some slot) =
    if not (is_open_slot (slot_of m slot)) || has_removed l.session m.id slot || not (meets l m) then refused l.session replies.NoSuchMessage
    else given_unheld l moment m slot (holder_for l m slot)

abbrev pub given_named : Look → ℕ → Option MsgRow → Meaning
given_named l moment None = refused l.session replies.NoSuchMessage
given_named l moment (Some m) = if not (bytes_eq m.queue l.queue.name) then refused l.session replies.NoSuchMessage
    else given_slot l moment m (slot_in l m)

-- ---- refusals

-- a consumer is needed, and none is given
abbrev pub lacks_consumer : QueueRow → TableRow → Option (List ℕ) → Bool
lacks_consumer queue table consumer = has_consumers queue table && is_none consumer

-- a consumer is given, and the queue has none
abbrev pub has_needless_consumer : QueueRow → TableRow → Option (List ℕ) → Bool
has_needless_consumer queue table consumer = not (has_consumers queue table) && is_some consumer

abbrev pub is_remove : Mode → Bool
is_remove modes.Remove = true
is_remove modes.Browse = false
is_remove modes.Locked = false
is_remove modes.RemoveNodata = false

-- of the exception queue of a table with many consumers messages are only removed
abbrev pub is_wrong_mode : QueueRow → TableRow → Mode → Bool
is_wrong_mode queue table mode = is_exception queue.kind && table.multi && not (is_remove mode)

abbrev pub is_by_transaction : Navigation → Bool
is_by_transaction navigations.Next = false
is_by_transaction navigations.First = false
is_by_transaction navigations.NextTransaction = true

-- the message of that id, or the one that the navigation leads to
abbrev pub dequeue_by : Look → ℕ → Option MsgId → Meaning
dequeue_by l moment (Some id) = given_named l moment (message_named l.tables l.session.at id)
dequeue_by l moment None = given_by l moment (chosen l)

abbrev pub dequeue_where : Tables → List Session → ℕ → Session → QueueRow → TableRow → Dequeue → Result (Option Cond) ConditionFault → ℕ → Meaning
dequeue_where t sessions actor s queue table ask (Err fault) moment = refused s (replies.BadCondition fault)
dequeue_where t sessions actor s queue table ask (Ok condition) moment =
    dequeue_by (record { tables = t; sessions = sessions; actor = actor; session = s; queue = queue; table = table; ask = ask; condition = condition }) moment ask.msgid

-- in valid tables the table of a queue is there
abbrev pub dequeue_typed : Tables → List Session → ℕ → Session → QueueRow → Option TableRow → Dequeue → ℕ → Meaning
dequeue_typed t sessions actor s queue None ask moment = refused s replies.NoQueue
dequeue_typed t sessions actor s queue (Some table) ask moment =
    if lacks_consumer queue table ask.consumer then refused s replies.ConsumerNeeded
    else (if has_needless_consumer queue table ask.consumer then refused s replies.ConsumerRefused
    else (if is_wrong_mode queue table ask.mode then refused s replies.WrongKind
    else (if is_by_transaction ask.navigation && not table.grouped then refused s replies.NotGrouped
    else dequeue_where t sessions actor s queue table ask (optional_condition table.fields ask.condition) moment)))

abbrev pub dequeue_from : Tables → List Session → ℕ → Session → Option QueueRow → Dequeue → ℕ → Meaning
dequeue_from t sessions actor s None ask moment = refused s replies.NoQueue
dequeue_from t sessions actor s (Some queue) ask moment = if not queue.dequeue then refused s replies.DequeueOff
    else dequeue_typed t sessions actor s queue (find_table t queue.table) ask moment

-- what a dequeue of the session of that number means
unfoldable pub dequeue : Tables → List Session → ℕ → Session → Dequeue → ℕ → Meaning
dequeue t sessions actor s ask moment = dequeue_from t sessions actor s (find_queue t ask.queue) ask moment
