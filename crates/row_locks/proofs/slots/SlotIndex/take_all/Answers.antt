use Rattle.std.proofs.Common.{None, cond, refl, ◌∙◌, ap, arith}
use Rattle.std.proofs.lemmas.List.{take_all}
use Rattle.slot_marks.specs.Marks.{has_slot}
use Rattle.row_locks.specs.Entries.{is_same_slot}
use Rattle.row_locks.specs.Slots.{hold_of}
use Rattle.row_locks.proofs.SlotLemmas.{taken_next}
use Rattle.row_locks.proofs.slots.SlotIndex.take_all.Goals as goal

pub loop-mark-init : goal.loop-mark-init
loop-mark-init c = record { holds = λ i s. refl; room = omega arith }

pub loop-mark-preserved : goal.loop-mark-preserved
loop-mark-preserved c = record {
  holds = λ i s.
      c.take.ensures.holds i s
      ∙ ap (λ h. cond (is_same_slot (c.mark-item.result.id, c.mark-item.result.slot) (i, s)) None h) (c.loop-mark.invariant.holds i s)
      ∙ taken_next c.args.marks.now c.loop-mark.mark-index c.mark-item.result i s (hold_of c.args.self.now i s) (omega arith) c.mark-item.is;
  room = omega (arith, c.loop-mark.invariant.room, c.take.ensures.room);
}

pub returns-clause-holds : goal.returns-clause-holds
returns-clause-holds c = λ i s. c.loop-mark.invariant.holds i s ∙ ap (λ marks. cond (has_slot i s marks) None (hold_of c.args.self.now i s)) (take_all c.loop-mark.mark-index c.args.marks.now (omega arith))

pub returns-clause-room : goal.returns-clause-room
returns-clause-room c = c.loop-mark.invariant.room
