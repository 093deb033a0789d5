-- once the remaining slots' rows are taken too, those of all slots are
use Rattle.std.proofs.Common.{◌≡◌, ℕ, List, Some}
use Rattle.ready_slots.specs.Taking.{row_at, taken_where, told}
use Rattle.remote_slots.specs.Putting.{is_any_for}
use Rattle.remote_slots.proofs.slots.RemoteSlots.take_each.Given as goal

abbrev pub invariant-loop-slot : goal.invariant-loop-slot
invariant-loop-slot l =
    let m = l.message in
    (queue to : List ℕ) → taken_where (is_any_for m.queue queue to l.slot-iterator) (row_at l.stamp m) (told queue (Some to) l.self)
    ≡ taken_where (is_any_for m.queue queue to m.slots) (row_at l.stamp m) (told queue (Some to) l.fn.self)
