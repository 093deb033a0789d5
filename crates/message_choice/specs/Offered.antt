-- What is offered to a session that asks, what is chosen of it, and how many rows are looked at, at most.
use Rattle.std.specs.Prelude.{◌+◌, ◌*◌, ℕ, ℤ, List, Option, filter}
use Rattle.queue_rows.specs.Dequeueing.{Choice, Look, choice}
use Rattle.queue_rows.specs.declared.rows.MsgRow.{MsgRow}
use Rattle.queue_rows.specs.declared.session.Position.{Position}
use Rattle.queue_rows.specs.declared.statement.Navigation.{Navigation}
use Rattle.choice_laws.specs.Choosing.{may_give}
use Rattle.choice_laws.specs.LookLaws.{passed_over}
use Rattle.message_choice.specs.Asking.{look_of}
use Rattle.message_choice.specs.Wanted.{filter_for, nearest_past, passes}
use Rattle.message_choice.specs.declared.asking.Asking.{Asking}
use Rattle.message_choice.specs.declared.asking.Filter.{Filter}

-- ---- for a look

-- the messages that the dequeue may give
abbrev pub candidates : Look → List MsgRow → List MsgRow
candidates l messages = filter (may_give l) messages

-- at most so many rows are looked at in one search: one more than there are messages of the queue with a ready slot for the consumer
-- that do not pass
abbrev pub most_looks : Look → Filter → List MsgRow → ℕ
most_looks l f messages = passed_over l.queue.name l.ask.consumer (passes l f) messages + 1

-- ---- for a session that asks

-- the messages that it may be given
abbrev pub offered : Asking → List MsgRow → List MsgRow
offered a messages = candidates (look_of a) messages

-- what a navigation chooses of them, from where the session stands
abbrev pub choice_by : Asking → Navigation → Option Position → List MsgRow → Choice
choice_by a navigation position messages = choice navigation position a.pick.now.table.now.grouped a.pick.now.mode (offered a messages)

-- the nearest past a place, where one is given, of those that pass
abbrev pub nearest_for : Asking → Filter → Option (List ℤ) → List MsgRow → Option MsgRow
nearest_for a f place messages = nearest_past (look_of a) f place messages

-- at most so many rows are looked at in one search
abbrev pub search_limit : Asking → Filter → List MsgRow → ℕ
search_limit a f messages = most_looks (look_of a) f messages

-- and in all
abbrev pub choice_limit : Asking → Navigation → Option Position → List MsgRow → ℕ
choice_limit a navigation position messages = 2 * search_limit a (filter_for navigation position a.pick.now.table.now.grouped) messages
