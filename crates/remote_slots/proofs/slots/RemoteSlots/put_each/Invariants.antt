-- once the rows of the remaining slots are put in too, those of all slots are
use Rattle.std.proofs.Common.{◌≡◌, ℕ, List, Some}
use Rattle.ready_slots.specs.Putting.{put_where}
use Rattle.ready_slots.specs.Taking.{row_at, told}
use Rattle.remote_slots.specs.Remote.{is_any_to}
use Rattle.remote_slots.proofs.slots.RemoteSlots.put_each.Given as goal

abbrev pub invariant-loop-slot : goal.invariant-loop-slot
invariant-loop-slot l =
    let m = l.message in
    (queue to : List ℕ) → put_where (is_any_to m.queue queue to l.slot-iterator) (row_at l.stamp m) (told queue (Some to) l.self)
    ≡ put_where (is_any_to m.queue queue to m.slots) (row_at l.stamp m) (told queue (Some to) l.fn.self)
