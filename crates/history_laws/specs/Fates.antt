-- What becomes of each slot of each message, told by the commits of a database alone.
use Rattle.std.specs.Prelude.{ℕ, ◌==◌, ◌&&◌, List, Bool, true, false, fold, Option, Some, None, option_map, option_and_then, if◌then◌else◌}
use Rattle.std.specs.Str.{bytes_eq}
use Rattle.queue_rows.specs.Rows.{find_message, slot_of, has_slot}
use Rattle.history_laws.specs.Made.{changes_of}
use Rattle.queue_rows.specs.declared.tables.Tables.{Tables}
use Rattle.queue_rows.specs.declared.rows.MsgRow.{MsgRow}
use Rattle.queue_rows.specs.declared.rows.SlotState.{SlotState}
use Rattle.queue_rows.specs.declared.rows.SlotState.TheVariants as states
use Rattle.queue_rows.specs.declared.change.Change.{Change}
use Rattle.queue_rows.specs.declared.change.Change.TheVariants as changes
use Rattle.queue_rows.specs.declared.change.Commit.{Commit}

-- ---- fates

-- what became of a slot; deleted is one that went with its queue before it was final
pub data Fate : Type 0 where
  waiting : Fate
  ready : Fate
  processed : Fate
  expired : Fate
  dropped : Fate
  deleted : Fate

-- the fate that a state is
abbrev pub fate_in : SlotState → Fate
fate_in states.Ready = ready
fate_in states.Waiting = waiting
fate_in states.Processed = processed
fate_in states.Expired = expired
fate_in states.Dropped = dropped

-- no change names a slot any more whose fate is final
abbrev pub is_final : Fate → Bool
is_final waiting = false
is_final ready = false
is_final processed = true
is_final expired = true
is_final dropped = true
is_final deleted = true

-- the fate of a slot, and the queue in which its message stands
pub record SlotFate : Type 0 where
  pub queue : List ℕ
  pub fate : Fate

-- ---- where it stands in tables

-- the fate of a slot that the message has
abbrev pub slot_fate_of : ℕ → MsgRow → Option SlotFate
slot_fate_of slot m = option_map (λ s. record { queue = m.queue; fate = fate_in s.state }) (slot_of m slot)

-- the fate with which a slot of the tables begins
abbrev pub slot_fate_in : Tables → ℕ → ℕ → Option SlotFate
slot_fate_in t id slot = option_and_then (slot_fate_of slot) (find_message t id)

-- ---- what a change says of a slot

-- it has this fate from now on
abbrev pub with_fate : Fate → SlotFate → SlotFate
with_fate fate c = record c { fate = fate }

-- its message stands in that queue from now on
abbrev pub in_queue : List ℕ → SlotFate → SlotFate
in_queue queue c = record c { queue = queue }

-- what is said of a slot, where it is this one
abbrev pub said : Bool → Fate → Option SlotFate → Option SlotFate
said is_it fate slot_fate = if is_it then option_map (with_fate fate) slot_fate else slot_fate

-- after a rollback it waits, or is ready at once
abbrev pub retried_fate : Option ℕ → Fate
retried_fate None = ready
retried_fate (Some until) = waiting

-- with its message each slot moves to that queue, and slot 0 begins
abbrev pub moved_slot_fate : List ℕ → ℕ → Option SlotFate → Option SlotFate
moved_slot_fate queue slot slot_fate = if slot == 0 then Some (record { queue = queue; fate = ready }) else option_map (in_queue queue) slot_fate

-- with its queue what is not final goes
abbrev pub without_queue : List ℕ → SlotFate → SlotFate
without_queue queue c = if bytes_eq c.queue queue then (if is_final c.fate then c else with_fate deleted c) else c

-- the fate of a slot, and its queue, after a change
abbrev pub slot_fate_after : ℕ → ℕ → Option SlotFate → Change → Option SlotFate
slot_fate_after id slot slot_fate (changes.Enqueued row) = if row.id == id then slot_fate_of slot row else slot_fate
slot_fate_after id slot slot_fate (changes.Retried named at_slot retries until at) = said ((named == id) && (at_slot == slot)) (retried_fate until) slot_fate
slot_fate_after id slot slot_fate (changes.Ready named at_slot at) = said ((named == id) && (at_slot == slot)) ready slot_fate
slot_fate_after id slot slot_fate (changes.Done named at_slot at) = said ((named == id) && (at_slot == slot)) processed slot_fate
slot_fate_after id slot slot_fate (changes.Expired named at_slot at) = said ((named == id) && (at_slot == slot)) expired slot_fate
slot_fate_after id slot slot_fate (changes.Dropped named at_slot at) = said ((named == id) && (at_slot == slot)) dropped slot_fate
slot_fate_after id slot slot_fate (changes.Moved named queue at) = if named == id then moved_slot_fate queue slot slot_fate else slot_fate
slot_fate_after id slot slot_fate (changes.DropQueue queue) = option_map (without_queue queue) slot_fate
slot_fate_after id slot slot_fate _ = slot_fate

-- ---- what commits say

-- the fate of a slot, and its queue, after these changes of a database with this opening
abbrev pub slot_fate_by : Tables → List Change → ℕ → ℕ → Option SlotFate
slot_fate_by opening cs id slot = fold (slot_fate_after id slot) (slot_fate_in opening id slot) cs

-- the fate of a slot after these changes of a database with this opening
abbrev pub fate_by : Tables → List Change → ℕ → ℕ → Option Fate
fate_by opening cs id slot = option_map (λ c. c.fate) (slot_fate_by opening cs id slot)

-- the fate of a slot after these commits
unfoldable pub fate : Tables → List Commit → ℕ → ℕ → Option Fate
fate opening commits id slot = fate_by opening (changes_of commits) id slot

-- ---- what changes name

-- the message has that number, and that slot
abbrev pub is_made_of : ℕ → ℕ → MsgRow → Bool
is_made_of id slot m = (m.id == id) && has_slot m slot

-- the change names the slot: it makes it, or says what becomes of it
abbrev pub names : ℕ → ℕ → Change → Bool
names id slot (changes.Enqueued row) = is_made_of id slot row
names id slot (changes.Retried named at_slot retries until at) = (named == id) && (at_slot == slot)
names id slot (changes.Ready named at_slot at) = (named == id) && (at_slot == slot)
names id slot (changes.Done named at_slot at) = (named == id) && (at_slot == slot)
names id slot (changes.Expired named at_slot at) = (named == id) && (at_slot == slot)
names id slot (changes.Dropped named at_slot at) = (named == id) && (at_slot == slot)
names id slot (changes.Moved named queue at) = (named == id) && (slot == 0)
names id slot _ = false

-- a committed removal of the slot
abbrev pub is_done : ℕ → ℕ → Change → Bool
is_done id slot (changes.Done named at_slot at) = (named == id) && (at_slot == slot)
is_done id slot _ = false
