-- Messages that are moved, where there is memory for their slots.
use Rattle.std.specs.Prelude.{ℕ, List, length, nat_lt, if◌then◌else◌}
use Rattle.queue_rows.specs.Tables.{moved_to}
use Rattle.queue_rows.specs.declared.rows.MsgRow.{MsgRow}

-- the message behind a move into that queue, for which there is memory for so many slots
abbrev pub moved_within : ℕ → List ℕ → ℕ → MsgRow → MsgRow
moved_within room queue at m = if nat_lt (length m.slots) room then moved_to queue at m else m
