-- Groups: the messages of one commit in a grouped queue, as one consumer sees them.
use Rattle.std.specs.Prelude.{ℕ, List, Option, Some, None, option_and_then, if◌then◌else◌}
use Rattle.slot_marks.specs.declared.mark.Group.{Group}
use Rattle.queue_rows.specs.Rows.{slot_of}
use Rattle.queue_rows.specs.declared.rows.TableRow.{TableRow}
use Rattle.queue_rows.specs.declared.rows.MsgRow.{MsgRow}

-- the name of a slot's recipient
abbrev pub consumer_of : MsgRow → ℕ → Option (List ℕ)
consumer_of m slot = option_and_then (λ s. s.name) (slot_of m slot)

-- the group by which marks hold a slot of a message, where its table is grouped
abbrev pub group_of : TableRow → MsgRow → ℕ → Option Group
group_of table m slot = if table.grouped then Some (record { queue = m.queue; number = m.group; consumer = consumer_of m slot }) else None
