-- Changes for which all memory was taken.
use Rattle.std.specs.Prelude.{ℕ, ◌<◌, List, [], ◌∷◌, length, IfSome}
use Rattle.queue_rows.specs.Rows.{find_message}
use Rattle.queue_rows.specs.Tables.{after_change}
use Rattle.queue_rows.specs.declared.tables.Tables.{Tables}
use Rattle.queue_rows.specs.declared.change.Change.{Change}
use Rattle.queue_rows.specs.declared.change.Change.TheVariants as changes
use Rattle.message_store.specs.Numbers.{HasNumbers}
use Rattle.message_index.specs.SlotRooms.{next_slots}
use Rattle.message_store.specs.Room.{Room, HasPlace, room_after}

-- of the message of that number, if there is one, there are fewer slots
abbrev pub HasFewerSlots : Tables → ℕ → ℕ → Type 0
HasFewerSlots t id slots = IfSome (find_message t id) (λ m. length m.slots < slots)

-- there is memory for the slots of the message that this change moves
abbrev pub HasItsSlotRoom : Tables → List ℕ → Change → Type 0
HasItsSlotRoom t slots (changes.Moved id queue at) = HasFewerSlots t id (next_slots slots)
HasItsSlotRoom t slots _ = Unit {0}

-- the change can be made in these tables without memory
pub record IsReady (t : Tables) (r : Room) (c : Change) : Type 0 where
  pub numbers : HasNumbers c
  pub place : HasPlace r c
  pub slots : HasItsSlotRoom t r.slots c

-- each of the changes can, once those before it are made
abbrev pub AreReady : Tables → Room → List Change → Type 0
AreReady t r [] = Unit {0}
AreReady t r (c ∷ cs) = IsReady t r c × AreReady (after_change t c) (room_after r c) cs
