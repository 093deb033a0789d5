use Rattle.std.proofs.Common.{None, cond, refl, sym, ◌∙◌, ap, arith, rules}
use Rattle.std.proofs.lemmas.List.{take_all}
use Rattle.slot_marks.specs.Marks.{has_slot}
use Rattle.row_locks.specs.Entries.{is_same_slot, present}
use Rattle.row_locks.specs.Slots.{hold_of}
use Rattle.row_locks.proofs.SlotLemmas.{present_some, present_none}
use Rattle.row_locks.proofs.slots.SlotIndex.take_present.Goals as goal
use Rattle.row_locks.proofs.slots.SlotIndex.take_present.Goals.{in-Some, in_default}

pub loop-entry-init : goal.loop-entry-init
loop-entry-init c = record { holds = λ i s. refl; room = omega arith }

pub loop-entry-preserved : goal.loop-entry-preserved
loop-entry-preserved c = elim c.match-entry.branch [
  | in-Some w ↦ record {
    holds = λ i s. rw w.self-is (
        w.take.ensures.holds i s
        ∙ ap (λ h. cond (is_same_slot (w.in-Some.mark.id, w.in-Some.mark.slot) (i, s)) None h) (c.loop-entry.invariant.holds i s)
        ∙ present_some c.args.entries.now c.loop-entry.entry-index c.entry-item.result w.in-Some.mark i s (hold_of c.args.self.now i s) (omega arith) c.entry-item.is (search rules)
        );
    room = rw w.self-is (omega (arith, c.loop-entry.invariant.room, w.take.ensures.room));
  }
  | in_default w ↦ record {
    holds = λ i s. rw w.self-is (
        c.loop-entry.invariant.holds i s
        ∙ ap (λ marks. cond (has_slot i s marks) None (hold_of c.args.self.now i s)) (sym (present_none c.args.entries.now c.loop-entry.entry-index c.entry-item.result (omega arith) c.entry-item.is (search rules)))
        );
    room = rw w.self-is c.loop-entry.invariant.room;
  }
]

pub returns-clause-holds : goal.returns-clause-holds
returns-clause-holds c = λ i s. c.loop-entry.invariant.holds i s ∙ ap (λ entries. cond (has_slot i s (present entries)) None (hold_of c.args.self.now i s)) (take_all c.loop-entry.entry-index c.args.entries.now (omega arith))

pub returns-clause-room : goal.returns-clause-room
returns-clause-room c = c.loop-entry.invariant.room
