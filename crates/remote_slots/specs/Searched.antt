-- The message that a schedule sends, by the rows of its queue and destination.
use Rattle.std.specs.Prelude.{ℕ, List, Option, option_map, filter}
use Rattle.queue_rows.specs.Dequeueing.{least}
use Rattle.queue_rows.specs.Propagating.{can_send_of}
use Rattle.queue_rows.specs.declared.rows.MsgRow.{MsgRow}
use Rattle.queue_rows.specs.declared.rows.ScheduleRow.{ScheduleRow}
use Rattle.sort_index.specs.declared.group.Ready.{Ready}
use Rattle.choice_laws.specs.Choosing.{first_passing}
use Rattle.choice_laws.specs.Entries.{Entry, Row}
use Rattle.choice_laws.specs.GoingLaws.{from_row}
use Rattle.ready_slots.specs.Indexed.{stamped}
use Rattle.remote_slots.specs.Remote.{rows_to}

-- of the messages of which the schedule can send a slot at that moment, the one with the least place
abbrev pub sent_first : ScheduleRow → ℕ → List MsgRow → Option MsgRow
sent_first schedule moment messages = least (filter (can_send_of schedule moment) messages)

-- the rows from one on, of those of the schedule's queue and destination
abbrev pub rows_from : ScheduleRow → List Entry → Option Ready → List Row
rows_from schedule entries row = from_row (option_map stamped row) (rows_to schedule.queue schedule.to entries)

-- the message of the first of them of which the schedule can send a slot
abbrev pub first_from : ScheduleRow → ℕ → List Entry → Option Ready → Option MsgRow
first_from schedule moment entries row = first_passing entries (can_send_of schedule moment) (rows_from schedule entries row)
