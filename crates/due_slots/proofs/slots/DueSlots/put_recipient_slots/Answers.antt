use Rattle.std.proofs.Common.{◌+◌, ◌-◌, ◌∙◌, ap, length}
use Rattle.std.specs.Prelude.{flat_map}
use Rattle.std.specs.List.{range_with_len}
use Rattle.due_slots.specs.Edits.{joined}
use Rattle.due_slots.specs.Rows.{slot_row}
use Rattle.due_slots.proofs.Stepping.{joined_next, length_next, room_next}
use Rattle.due_slots.proofs.slots.DueSlots.put_recipient_slots.Goals as goal

pub loop-slot-preserved : goal.loop-slot-preserved
loop-slot-preserved c =
    let G = slot_row c.args.message.now in
    let end = c.recipient_count.result + 1 in
    let slot = c.loop-slot.slot in
    let before = c.loop-slot.self.rows in
    record {
      rows = joined_next G slot end c.loop-slot-test.true before c.put.new.self.rows (c.put.ensures.rows ∙ ap (joined before) c.slot_row.ensures) ∙ c.loop-slot.invariant.rows;
      room = room_next c.loop-slot.self.spare c.put.new.self.spare (length (flat_map G (range_with_len 1 (end - 1)))) c.args.self.now.spare
          (length (flat_map G (range_with_len (slot + 1) (end - (slot + 1))))) (length (flat_map G (range_with_len slot (end - slot)))) (length (G slot))
          c.loop-slot.invariant.room (c.put.ensures.room ∙ ap (λ xs. c.put.new.self.spare + length xs) c.slot_row.ensures) (length_next G slot end c.loop-slot-test.true);
    }
