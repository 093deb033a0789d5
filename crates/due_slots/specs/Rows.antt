-- Which rows a message has in the index of what is due.
use Rattle.std.specs.Prelude.{ℕ, ◌+◌, ◌-◌, ◌^◌, ◌<◌, ◌++◌, List, [], ◌∷◌, min, flat_map, Option, Some, None, option_and_then, if◌then◌else◌}
use Rattle.std.specs.List.{range_with_len}
use Rattle.due_index.specs.Due.{due_row}
use Rattle.due_index.specs.declared.row.DueRow.{DueRow}
use Rattle.queue_rows.specs.Rows.{recipient_count, slot_of}
use Rattle.queue_rows.specs.Settling.{is_open, is_ready, is_handled}
use Rattle.queue_rows.specs.Due.{slot_numbers, is_taken, last_taken}
use Rattle.queue_rows.specs.declared.rows.MsgRow.{MsgRow}
use Rattle.queue_rows.specs.declared.rows.SlotRow.{SlotRow}

abbrev pub sooner : ℕ → Option ℕ → ℕ
sooner at None = at
sooner at (Some expiry) = min at expiry

-- the moment from which on something may be due of a slot: when it expires, or, where it waits, when that ends
abbrev pub slot_moment : SlotRow → Option ℕ
slot_moment s = if is_open s.state then (if is_ready s.state then s.expires else Some (sooner s.at s.expires)) else None

abbrev pub row_at : ℕ → ℕ → Option ℕ → List DueRow
row_at id slot None = []
row_at id slot (Some moment) = due_row moment id slot ∷ []

abbrev pub slot_row : MsgRow → ℕ → List DueRow
slot_row m slot = row_at m.id slot (option_and_then slot_moment (slot_of m slot))

-- the moment at which a message goes that all have taken, where its queue keeps it for so long; a later one than there
-- are is the last
abbrev pub purge_moment : ℕ → MsgRow → ℕ
purge_moment retention m = if is_taken m then min (last_taken m + retention) (2 ^ 64 - 1) else 0

abbrev pub purge_row : ℕ → MsgRow → List DueRow
purge_row retention m = if is_handled m then due_row (purge_moment retention m) m.id 0 ∷ [] else []

-- the rows of a message whose queue keeps messages for so long: one for each slot of which something may be due, under its
-- number, and one under the number 0 where all have taken the message
abbrev pub rows_of : ℕ → MsgRow → List DueRow
rows_of retention m = flat_map (slot_row m) (slot_numbers m) ++ purge_row retention m

-- the rows of the slots of its recipients
abbrev pub recipient_rows : MsgRow → List DueRow
recipient_rows m = flat_map (slot_row m) (range_with_len 1 (recipient_count m))

-- the number of each slot fits 32 bits
abbrev pub HasFewSlots : MsgRow → Type 0
HasFewSlots m = recipient_count m + 1 < 2 ^ 32
