-- What an enqueue means.
use Rattle.std.specs.Prelude.{ℕ, ◌+◌, ◌==◌, ◌&&◌, ◌||◌, ℤ, pos, negsuc, List, [], ◌∷◌, ◌++◌, length, map, Bool, false, not, nat_lt, nat_le, Option, Some, None, is_some, is_none, option_map, option_and_then, Result, Ok, Err, if◌then◌else◌}
use Rattle.std.specs.List.{list_any}
use Rattle.std.specs.Option.{option_map_or}
use Rattle.std.specs.Str.{bytes_eq}
use Rattle.aq_base.specs.declared.DbId.{DbId}
use Rattle.aq_base.specs.declared.limits.TheConstants.{NEXT_LIMIT, RECIPIENT_LIMIT}
use Rattle.payload_records.specs.Record.{record_of}
use Rattle.payload_records.specs.declared.record.Record.{Record}
use Rattle.payload_records.specs.declared.record.PayloadFault.{PayloadFault}
use Rattle.place_keys.specs.Place.{put_before, before_count}
use Rattle.place_keys.specs.declared.place.TheConstants.{BEFORE_LIMIT}
use Rattle.queue_rows.specs.Rows.{find_table, find_queue}
use Rattle.queue_rows.specs.Settling.{is_exception, is_open, is_exception_of}
use Rattle.queue_rows.specs.Commits.{place_of, commit_of}
use Rattle.queue_rows.specs.Recipients.{names_recipients, facts_of, recipients}
use Rattle.queue_rows.specs.Session.{Session, message_named}
use Rattle.queue_rows.specs.Meaning.{Meaning, answers, unparked, refused}
use Rattle.queue_rows.specs.declared.tables.Tables.{Tables}
use Rattle.queue_rows.specs.declared.rows.TableRow.{TableRow}
use Rattle.queue_rows.specs.declared.rows.QueueRow.{QueueRow}
use Rattle.queue_rows.specs.declared.rows.MsgRow.{MsgRow}
use Rattle.queue_rows.specs.declared.rows.SlotRow.{SlotRow}
use Rattle.queue_rows.specs.declared.rows.SlotState.TheVariants as states
use Rattle.queue_rows.specs.declared.session.Agent.{Agent}
use Rattle.queue_rows.specs.declared.session.Pending.TheVariants.{Add}
use Rattle.queue_rows.specs.declared.reply.Reply.TheVariants as replies
use Rattle.queue_rows.specs.declared.reply.LimitName.TheVariants as limits
use Rattle.queue_rows.specs.declared.statement.Enqueue.{Enqueue}
use Rattle.queue_rows.specs.declared.statement.MsgId.{MsgId}
use Rattle.queue_rows.specs.declared.statement.Visibility.{Visibility}
use Rattle.queue_rows.specs.declared.statement.Visibility.TheVariants.{OnCommit, Immediate}

-- ---- the message

-- a recipient's slot; it can be taken when the delay is over, and expires behind that
abbrev pub new_slot : Enqueue → ℕ → Agent → SlotRow
new_slot ask moment agent = record { name = agent.name; address = agent.address; state = states.Waiting; retries = 0; at = moment + ask.delay; expires = option_map (λ seconds. moment + ask.delay + seconds) ask.expiration }

-- until it is committed a message has no group, and lane 0, or -1 where it is to stand before all
abbrev pub lane_until_commit : Enqueue → ℤ
lane_until_commit ask = if ask.top then negsuc 0 else pos 0

-- before another message it has that one's place with its own id behind
abbrev pub place_until_commit : TableRow → Enqueue → Option MsgRow → ℕ → ℕ → List ℤ
place_until_commit table ask None id moment = place_of (lane_until_commit ask) table.columns ask.priority moment moment id
place_until_commit table ask (Some relative) id moment = put_before relative.place (pos id)

-- the message that an enqueue adds, for these recipients
abbrev pub addition : TableRow → Enqueue → Record → List Agent → Option MsgRow → ℕ → ℕ → MsgRow
addition table ask cells agents relative id moment = record {
  id = id;
  queue = ask.queue;
  place = place_until_commit table ask relative id moment;
  facts = facts_of ask cells;
  exception = ask.exception_queue;
  enq = moment;
  group = 0;
  moved = false;
  slots = map (new_slot ask moment) agents;
}

-- as a transaction of its own
abbrev pub added_at_once : Tables → Session → MsgRow → ℕ → Meaning
added_at_once t s m moment = answers (replies.Enqueued (record { db = s.at; number = m.id })) (commit_of t moment (Add m ∷ [])) (unparked s)

-- kept with the session until it commits
abbrev pub added_later : Session → MsgRow → Meaning
added_later s m = answers (replies.Enqueued (record { db = s.at; number = m.id })) [] (record s { pending = s.pending ++ Add m ∷ []; parked = None })

abbrev pub add : Visibility → Tables → Session → MsgRow → ℕ → Meaning
add OnCommit t s m moment = added_later s m
add Immediate t s m moment = added_at_once t s m moment

-- ---- the message before which it is to stand

-- it stands in that queue, was not moved there, and can be taken now or later
abbrev pub is_relative : List ℕ → MsgRow → Bool
is_relative queue m = bytes_eq m.queue queue && not m.moved && list_any (λ s. is_open s.state) m.slots

abbrev pub relative_if : List ℕ → MsgRow → Option MsgRow
relative_if queue m = if is_relative queue m then Some m else None

abbrev pub relative_named : Tables → DbId → List ℕ → MsgId → Option MsgRow
relative_named t db queue id = option_and_then (relative_if queue) (message_named t db id)

abbrev pub relative_of : Tables → DbId → Enqueue → Option MsgRow
relative_of t db ask = option_and_then (relative_named t db ask.queue) ask.before

-- its place has no room for a further id
abbrev pub is_too_deep : TableRow → Option MsgRow → Bool
is_too_deep table relative = option_map_or (λ m. nat_le BEFORE_LIMIT (before_count (length table.columns) m.place)) relative false

-- ---- refusals

-- the exception queue that the enqueue names is none of the table
abbrev pub names_bad_exception : Tables → TableRow → Enqueue → Bool
names_bad_exception t table ask = option_map_or (λ name. not (is_exception_of table.name (find_queue t name))) ask.exception_queue false

abbrev pub enqueue_for : Tables → Session → TableRow → Enqueue → Record → List Agent → Option MsgRow → ℕ → ℕ → Meaning
enqueue_for t s table ask cells agents relative next moment =
    if names_recipients ask && not table.multi then refused s replies.ConsumerRefused
    else (if names_bad_exception t table ask then refused s replies.BadExceptionQueue
    else (if table.grouped && (is_some ask.before || ask.top) then refused s replies.Grouped
    else (if is_some ask.before && is_none relative then refused s replies.BadRelative
    else (if is_too_deep table relative then refused s replies.TooDeep
    else (if length agents == 0 then refused s replies.NoRecipients
    else (if nat_lt RECIPIENT_LIMIT (length agents) then refused s (replies.Limit limits.Recipients)
    else (if nat_le NEXT_LIMIT next then refused s (replies.Limit limits.Ids)
    else add ask.visibility t s (addition table ask cells agents relative next moment) moment)))))))

abbrev pub enqueue_cells : Tables → Session → TableRow → Enqueue → Result Record PayloadFault → ℕ → ℕ → Meaning
enqueue_cells t s table ask (Err fault) next moment = refused s (replies.Payload fault)
enqueue_cells t s table ask (Ok cells) next moment = enqueue_for t s table ask cells (recipients t table ask cells) (relative_of t s.at ask) next moment

-- in valid tables the table of a queue is there
abbrev pub enqueue_typed : Tables → Session → Option TableRow → Enqueue → ℕ → ℕ → Meaning
enqueue_typed t s None ask next moment = refused s replies.NoQueue
enqueue_typed t s (Some table) ask next moment = enqueue_cells t s table ask (record_of table.fields ask.payload) next moment

abbrev pub enqueue_into : Tables → Session → Option QueueRow → Enqueue → ℕ → ℕ → Meaning
enqueue_into t s None ask next moment = refused s replies.NoQueue
enqueue_into t s (Some queue) ask next moment = if is_exception queue.kind then refused s replies.WrongKind
    else (if not queue.enqueue then refused s replies.EnqueueOff
    else enqueue_typed t s (find_table t queue.table) ask next moment)

-- what an enqueue means, where next is the id that it would get
unfoldable pub enqueue : Tables → Session → Enqueue → ℕ → ℕ → Meaning
enqueue t s ask next moment = enqueue_into t s (find_queue t ask.queue) ask next moment
