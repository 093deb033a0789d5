-- Messages of which there are few.
use Rattle.std.specs.Prelude.{◌==◌, ◌<◌, ◌^◌, ◌&&◌, Bool, true, not, nat_le, List, length, slice_get, Option, Some, None}
use Rattle.queue_rows.specs.declared.rows.MsgRow.{MsgRow}

-- the message's slots can be numbered, slot 0 too
abbrev pub CanNumberSlots : MsgRow → Type 0
CanNumberSlots m = length m.slots < 2 ^ 32

-- where there are two, their numbers differ
abbrev pub differ : Option MsgRow → Option MsgRow → Bool
differ None second = true
differ (Some first) None = true
differ (Some first) (Some second) = not (first.id == second.id)

-- two at most, which differ
abbrev pub are_few : List MsgRow → Bool
are_few messages = nat_le (length messages) 2 && differ (slice_get messages 0) (slice_get messages 1)
