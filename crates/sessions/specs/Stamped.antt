-- What additions and removals become at their commit, by the commit's group and moment as one value.
use Rattle.std.specs.Prelude.{List, Option, Some}
use Rattle.queue_rows.specs.Commits.{completed_in, completed_by, completed, change_of, changes_from}
use Rattle.queue_rows.specs.declared.tables.Tables.{Tables}
use Rattle.queue_rows.specs.declared.rows.TableRow.{TableRow}
use Rattle.queue_rows.specs.declared.rows.QueueRow.{QueueRow}
use Rattle.queue_rows.specs.declared.rows.MsgRow.{MsgRow}
use Rattle.queue_rows.specs.declared.session.Pending.{Pending}
use Rattle.queue_rows.specs.declared.change.Change.{Change}
use Rattle.sessions.specs.Running.{with_queues}
use Rattle.sessions.specs.declared.completed.Stamp.{Stamp}

abbrev pub completed_in_table : TableRow → QueueRow → Stamp → MsgRow → MsgRow
completed_in_table table queue stamp m = completed_in (Some table) queue stamp.group stamp.moment m

abbrev pub completed_for : Tables → Option QueueRow → Stamp → MsgRow → MsgRow
completed_for tables queue stamp m = completed_by tables queue stamp.group stamp.moment m

-- in the tables with these queues in place of their own
abbrev pub completed_among : Tables → List QueueRow → Stamp → MsgRow → MsgRow
completed_among tables queues stamp m = completed (with_queues tables queues) stamp.group stamp.moment m

abbrev pub change_among : Tables → List QueueRow → Stamp → Pending → Change
change_among tables queues stamp p = change_of (with_queues tables queues) stamp.group stamp.moment p

abbrev pub changes_at : Tables → Stamp → List Pending → List Change
changes_at tables stamp pending = changes_from tables stamp.group stamp.moment pending
