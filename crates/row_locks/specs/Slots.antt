-- What the index of slots tells.
use Rattle.std.specs.Prelude.{◌≡◌, ◌≤◌, ◌^◌, ◌==◌, ◌&&◌, ℕ, length, map, Bool, true, false, ◌/◌, ◌%◌, List, Option, Some, None, slice_index_or}
use Rattle.std.specs.Option.{option_map_or}
use Rattle.std.specs.HashMap.{get, spare}
use Rattle.row_locks.specs.Entries.{SessionEntries, all_spare, is_same_slot, mark_at, shown}
use Rattle.slot_marks.specs.Marks.{is_on, AreHeldOnce}
use Rattle.slot_marks.specs.declared.mark.Mark.{Mark}
use Rattle.row_locks.specs.declared.slots.Hold.{Hold}
use Rattle.row_locks.specs.declared.slots.SlotIndex.{SlotIndex}

-- what a block has at a place
abbrev pub cell : Option (List (Option Hold)) → ℕ → Option Hold
cell block at = option_map_or (λ holds. slice_index_or holds at None) block None

-- the block in which a slot is told
abbrev pub block_at : SlotIndex → ℕ → ℕ → Option (List (Option Hold))
block_at index id slot = get is_same_slot index.blocks (id / 16, slot)

-- the mark on a slot
abbrev pub hold_of : SlotIndex → ℕ → ℕ → Option Hold
hold_of index id slot = cell (block_at index id slot) (id % 16)

-- there is a mark, and it is the session's
abbrev pub is_held_by : ℕ → Option Hold → Bool
is_held_by session hold = option_map_or (λ it. it.session == session) hold false

-- and it removed its slot
abbrev pub is_removed_by : ℕ → Option Hold → Bool
is_removed_by session hold = option_map_or (λ it. (it.session == session) && it.removed) hold false

-- how many more blocks fit
abbrev pub room_of : SlotIndex → ℕ
room_of index = spare index.blocks

-- the index tells the session, the place and the removal of each mark by its slot, and nothing else
pub record IsSlotIndex (tables : List SessionEntries) (hold : ℕ → ℕ → Option Hold) : Type 0 where
  pub found : (session at : ℕ) (mark : Mark) → mark_at tables session at ≡ Some mark
      → hold mark.id mark.slot ≡ Some (record { session = session; at = at; removed = mark.removed })
  pub real : (id slot : ℕ) (it : Hold) → hold id slot ≡ Some it → (mark : Mark) × (mark_at tables it.session it.at ≡ Some mark) × (is_on id slot mark ≡ true)

-- what holds of the entries and of their index: no two sessions hold a slot or a group, and there is the room that was reserved
pub record IsSound (tables : List SessionEntries) (hold : ℕ → ℕ → Option Hold) (spare room : ℕ) : Type 0 where
  pub bound : length tables ≤ 2 ^ 32
  pub once : AreHeldOnce (map shown tables)
  pub slots : IsSlotIndex tables hold
  pub within : all_spare tables ≤ spare
  pub fits : spare ≤ room
