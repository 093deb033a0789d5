use Rattle.std.proofs.Common.{◌≡◌, ◌+◌}
use Rattle.message_index.specs.SlotRooms.{slots_of}
use Rattle.message_index.proofs.moved_rooms.slots_of_all.Given as goal

abbrev pub invariant-loop-message : goal.invariant-loop-message
invariant-loop-message l = l.slots + slots_of l.id l.message-iterator ≡ slots_of l.id l.messages
