use Rattle.std.proofs.Common.{ℕ, ◌++◌, ◌+◌, ◌-◌, ◌<◌, sym, ap, ◌∙◌, append_assoc}
use Rattle.std.specs.Prelude.{flat_map}
use Rattle.std.specs.List.{range_with_len}
use Rattle.queue_rows.specs.Rows.{slot_of}
use Rattle.queue_rows.specs.Due.{due_slot}
use Rattle.time_manager.specs.Watching.{watch_of}
use Rattle.time_manager.proofs.Gathering.{given_next}
use Rattle.time_manager.proofs.slots.push_recipient_slots.Goals as goal

pub loop-slot-preserved : goal.loop-slot-preserved
loop-slot-preserved c =
    let w = watch_of c.args.watching.now in
    let m = c.args.message.now in
    let end = c.recipient_count.result + 1 in
    let slot = c.loop-slot.slot in
    let below : slot < end = c.loop-slot-test.true in
    let G = λ (n : ℕ). due_slot w m n (slot_of m n) in
    let rest = flat_map G (range_with_len (slot + 1) (end - (slot + 1))) in
    ap (λ xs. xs ++ rest) c.in_ok-push_slot.ensures
    ∙ append_assoc c.loop-slot.changes (G slot) rest
    ∙ sym (ap (λ xs. c.loop-slot.changes ++ xs) (given_next G slot end below))
    ∙ c.loop-slot.invariant
