-- What a session has marked: with a slot its group too.
use Rattle.std.specs.Prelude.{◌≡◌, ℕ, List, true, Some, IfSome, All}
use Rattle.slot_marks.specs.Marks.{has_slot, has_group}
use Rattle.slot_marks.specs.declared.mark.Mark.{Mark}
use Rattle.queue_rows.specs.Rows.{find_queue, find_table}
use Rattle.queue_rows.specs.Groups.{group_of}
use Rattle.queue_rows.specs.declared.tables.Tables.{Tables}
use Rattle.queue_rows.specs.declared.rows.QueueRow.{QueueRow}
use Rattle.queue_rows.specs.declared.rows.TableRow.{TableRow}
use Rattle.queue_rows.specs.declared.rows.MsgRow.{MsgRow}

-- where one of these marks is on a slot of the message, and the message's table is grouped, one is in the slot's group too
abbrev pub IsInGroups : Tables → List Mark → MsgRow → Type 0
IsInGroups t marks m = (queue : QueueRow) (table : TableRow) → find_queue t m.queue ≡ Some queue → find_table t queue.table ≡ Some table
    → (slot : ℕ) → has_slot m.id slot marks ≡ true → IfSome (group_of table m slot) (λ group. has_group group marks ≡ true)

-- So it is of each message. It holds of the marks of a session, since a dequeue marks a slot with its group, and while a mark is on a
-- slot its message keeps its queue and its group, and the slot its name.
abbrev pub AreInGroups : Tables → List Mark → Type 0
AreInGroups t marks = All (IsInGroups t marks) t.messages
