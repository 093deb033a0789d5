use Rattle.std.proofs.Common.{◌≡◌, ℕ, ◌≤◌, None, cond, take}
use Rattle.slot_marks.specs.Marks.{has_slot}
use Rattle.row_locks.specs.Entries.{present}
use Rattle.row_locks.specs.Slots.{hold_of, room_of}
use Rattle.row_locks.proofs.slots.SlotIndex.take_present.Given as goal

abbrev pub invariant-loop-entry : goal.invariant-loop-entry
invariant-loop-entry l = record {
  holds : (i s : ℕ) → hold_of l.self i s ≡ cond (has_slot i s (present (take l.entry-index l.entries))) None (hold_of l.initial.self i s);
  room : room_of l.initial.self ≤ room_of l.self;
}
