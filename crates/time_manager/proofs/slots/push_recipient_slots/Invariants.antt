-- What is due of the slots so far, and of those that are left, is what is due of all.
use Rattle.std.proofs.Common.{◌≡◌, ◌++◌, ◌-◌}
use Rattle.std.specs.Prelude.{flat_map}
use Rattle.std.specs.List.{range_with_len}
use Rattle.queue_rows.specs.Rows.{slot_of}
use Rattle.queue_rows.specs.Due.{due_slot}
use Rattle.time_manager.specs.Watching.{watch_of}
use Rattle.time_manager.proofs.slots.push_recipient_slots.Given as goal

abbrev pub invariant-loop-slot : goal.invariant-loop-slot
invariant-loop-slot l =
    let w = watch_of l.watching in
    l.changes ++ flat_map (λ slot. due_slot w l.message slot (slot_of l.message slot)) (range_with_len l.slot (l.end - l.slot))
    ≡ l.fn.changes ++ flat_map (λ slot. due_slot w l.message slot (slot_of l.message slot)) (range_with_len 1 (l.end - 1))
