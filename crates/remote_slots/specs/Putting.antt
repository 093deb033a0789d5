-- What the rows of each queue and destination are when those of a message come or go.
use Rattle.std.specs.Prelude.{◌≡◌, ◌&&◌, ℕ, Bool, List, Option, Some, None, if◌then◌else◌}
use Rattle.std.specs.List.{list_any}
use Rattle.std.specs.Str.{bytes_eq}
use Rattle.queue_rows.specs.Propagating.{goes_to}
use Rattle.queue_rows.specs.Settling.{is_ready}
use Rattle.queue_rows.specs.declared.rows.MsgRow.{MsgRow}
use Rattle.queue_rows.specs.declared.rows.SlotRow.{SlotRow}
use Rattle.sort_index.specs.declared.group.Group.{Group}
use Rattle.ready_slots.specs.Putting.{put_where}
use Rattle.ready_slots.specs.Taking.{row_at, taken_where, told}
use Rattle.remote_slots.specs.Remote.{stands_to}

-- where the slot goes, if it is ready
abbrev pub sent_to : SlotRow → Option (List ℕ)
sent_to s = if is_ready s.state then s.address else None

-- one of the slots of a message in the first queue has the destination, and the second queue is that one
abbrev pub is_any_for : (own queue to : List ℕ) → List SlotRow → Bool
is_any_for own queue to slots = bytes_eq own queue && list_any (goes_to to) slots

-- each destination that a slot of the message has loses the row
abbrev pub TakesEach : MsgRow → ℕ → (before after : List Group) → Type 0
TakesEach m stamp before after = (queue to : List ℕ)
    → told queue (Some to) after ≡ taken_where (is_any_for m.queue queue to m.slots) (row_at stamp m) (told queue (Some to) before)

-- each destination for which a slot of the message is ready has the row of the message
abbrev pub PutsEach : MsgRow → ℕ → (before after : List Group) → Type 0
PutsEach m stamp before after = (queue to : List ℕ)
    → told queue (Some to) after ≡ put_where (stands_to queue to m) (row_at stamp m) (told queue (Some to) before)
