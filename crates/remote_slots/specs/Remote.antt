-- The rows by which the messages of a queue are found that have a ready slot for a destination.
use Rattle.std.specs.Prelude.{◌≡◌, ◌&&◌, ℕ, Bool, List, [], ◌∷◌, Some, map}
use Rattle.std.specs.List.{list_any}
use Rattle.std.specs.Str.{bytes_eq}
use Rattle.queue_rows.specs.Settling.{is_ready}
use Rattle.queue_rows.specs.Propagating.{goes_to}
use Rattle.queue_rows.specs.declared.rows.MsgRow.{MsgRow}
use Rattle.queue_rows.specs.declared.rows.SlotRow.{SlotRow}
use Rattle.sort_index.specs.Ready.{rows_of}
use Rattle.sort_index.specs.declared.group.Group.{Group}
use Rattle.choice_laws.specs.Entries.{Entry, Row, row_of, with_row}
use Rattle.ready_slots.specs.Indexed.{stamped}

-- it goes there, and is ready
abbrev pub is_ready_to : List ℕ → SlotRow → Bool
is_ready_to to s = goes_to to s && is_ready s.state

-- one of the slots of a message in the first queue is ready for the destination, and the second queue is that one
abbrev pub is_any_to : (own queue to : List ℕ) → List SlotRow → Bool
is_any_to own queue to slots = bytes_eq own queue && list_any (is_ready_to to) slots

-- it stands in the queue and has a ready slot for the destination
abbrev pub stands_to : (queue to : List ℕ) → MsgRow → Bool
stands_to queue to m = is_any_to m.queue queue to m.slots

-- the rows of the messages that stand in the queue and have a ready slot for the destination, in their order
abbrev pub rows_to : (queue to : List ℕ) → List Entry → List Row
rows_to queue to [] = []
rows_to queue to (e ∷ es) = with_row (stands_to queue to e.message) (row_of e) (rows_to queue to es)

-- of each queue and destination, which takes the consumer's place, the index has these rows
abbrev pub IndexesRemote : List Entry → List Group → Type 0
IndexesRemote entries groups = (queue to : List ℕ) → map stamped (rows_of queue (Some to) groups) ≡ rows_to queue to entries
