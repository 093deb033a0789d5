-- What is settled of one message alone.
use Rattle.std.specs.Prelude.{List, [], flat_map, if◌then◌else◌}
use Rattle.queue_rows.specs.Due.{Watch, due_slots, is_spent}
use Rattle.queue_rows.specs.Settling.{names_of, settling}
use Rattle.queue_rows.specs.declared.tables.Tables.{Tables}
use Rattle.queue_rows.specs.declared.rows.MsgRow.{MsgRow}
use Rattle.queue_rows.specs.declared.change.Change.{Change}

-- what the changes settle of the messages that they name
abbrev pub settled_of : Tables → List Change → List Change
settled_of t cs = flat_map (settling t cs) (names_of cs)

-- what is settled of a message by what is due of its slots alone: nothing, where the message goes
abbrev pub own_settling : Watch → MsgRow → List Change
own_settling w m = if is_spent w m then [] else settled_of w.tables (due_slots w m)
