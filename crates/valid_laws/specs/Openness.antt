-- Which slots and messages can still be taken.
use Rattle.std.specs.Prelude.{ℕ, ◌&&◌, Bool, false, not}
use Rattle.std.specs.List.{list_any}
use Rattle.std.specs.Option.{option_map_or}
use Rattle.queue_rows.specs.Rows.{find_message, slot_of}
use Rattle.queue_rows.specs.Settling.{is_open}
use Rattle.queue_rows.specs.declared.tables.Tables.{Tables}
use Rattle.queue_rows.specs.declared.rows.MsgRow.{MsgRow}

-- it has that slot, which can be taken now or later
abbrev pub is_open_slot : ℕ → MsgRow → Bool
is_open_slot slot m = option_map_or (λ s. is_open s.state) (slot_of m slot) false

-- the slot is there, and can be taken now or later
abbrev pub is_open_at : Tables → ℕ → ℕ → Bool
is_open_at t id slot = option_map_or (is_open_slot slot) (find_message t id) false

-- no slot of it can be taken any more
abbrev pub is_finished : MsgRow → Bool
is_finished m = not (list_any (λ s. is_open s.state) m.slots)

-- and so it is of the message of that id, which is there
abbrev pub is_finished_at : Tables → ℕ → Bool
is_finished_at t id = option_map_or is_finished (find_message t id) false

-- it is lost or kept where it stands, and was never moved
abbrev pub may_move : MsgRow → Bool
may_move m = not m.moved && is_finished m
