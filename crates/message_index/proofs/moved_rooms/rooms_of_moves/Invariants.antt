use Rattle.std.proofs.Common.{◌++◌, All, List, ℕ, nat_eq}
use Rattle.std.specs.HashMap.{get}
use Rattle.message_index.specs.SlotRooms.{HasSlotRooms, TellsAdded}
use Rattle.message_index.proofs.moved_rooms.rooms_of_moves.Given as goal

abbrev pub invariant-loop-change : goal.invariant-loop-change
invariant-loop-change l = record {
  more : (later : List ℕ) → HasSlotRooms l.messages l.changes l.change-iterator later → HasSlotRooms l.messages l.changes l.changes (l.rooms.items ++ later);
  told : All (TellsAdded (get nat_eq l.added) l.changes) l.change-iterator;
}
