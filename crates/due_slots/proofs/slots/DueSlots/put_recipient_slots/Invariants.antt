-- With the rows of the slots so far, and with those that are left, are those with all; and there is the room for these.
use Rattle.std.proofs.Common.{◌≡◌, ◌+◌, ◌-◌, length}
use Rattle.std.specs.Prelude.{flat_map}
use Rattle.std.specs.List.{range_with_len}
use Rattle.due_slots.specs.Edits.{joined}
use Rattle.due_slots.specs.Rows.{slot_row}
use Rattle.due_slots.proofs.slots.DueSlots.put_recipient_slots.Given as goal

abbrev pub invariant-loop-slot : goal.invariant-loop-slot
invariant-loop-slot l =
    let all = flat_map (slot_row l.message) (range_with_len 1 (l.end - 1)) in
    let rest = flat_map (slot_row l.message) (range_with_len l.slot (l.end - l.slot)) in
    record {
      rows : joined l.self.rows rest ≡ joined l.fn.self.rows all;
      room : l.self.spare + length all ≡ l.fn.self.spare + length rest;
    }
