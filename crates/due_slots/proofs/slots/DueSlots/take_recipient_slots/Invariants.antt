-- Without the rows of the slots so far, and without those that are left, are those without all.
use Rattle.std.proofs.Common.{◌≡◌, ◌-◌}
use Rattle.std.specs.Prelude.{flat_map}
use Rattle.std.specs.List.{range_with_len}
use Rattle.due_slots.specs.Edits.{without}
use Rattle.due_slots.specs.Rows.{slot_row}
use Rattle.due_slots.proofs.slots.DueSlots.take_recipient_slots.Given as goal

abbrev pub invariant-loop-slot : goal.invariant-loop-slot
invariant-loop-slot l = record {
  rows : without l.self.rows (flat_map (slot_row l.message) (range_with_len l.slot (l.end - l.slot)))
      ≡ without l.fn.self.rows (flat_map (slot_row l.message) (range_with_len 1 (l.end - 1)));
  room : l.self.spare ≡ l.fn.self.spare;
}
