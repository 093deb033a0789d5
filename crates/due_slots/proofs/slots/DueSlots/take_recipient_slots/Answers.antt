use Rattle.std.proofs.Common.{◌+◌, ◌∙◌, ap}
use Rattle.due_slots.specs.Edits.{without}
use Rattle.due_slots.specs.Rows.{slot_row}
use Rattle.due_slots.proofs.Stepping.{without_next}
use Rattle.due_slots.proofs.slots.DueSlots.take_recipient_slots.Goals as goal

pub loop-slot-preserved : goal.loop-slot-preserved
loop-slot-preserved c =
    let before = c.loop-slot.self.rows in
    record {
      rows = without_next (slot_row c.args.message.now) c.loop-slot.slot (c.recipient_count.result + 1) c.loop-slot-test.true before c.take.new.self.rows
          (c.take.ensures.rows ∙ ap (without before) c.slot_row.ensures) ∙ c.loop-slot.invariant.rows;
      room = c.take.ensures.room ∙ c.loop-slot.invariant.room;
    }
