-- once the rows of the remaining slots are put in too, those of all slots are
use Rattle.std.proofs.Common.{◌≡◌, ℕ, List, Option}
use Rattle.ready_slots.specs.Putting.{put_where}
use Rattle.ready_slots.specs.Shown.{is_any_offered}
use Rattle.ready_slots.specs.Taking.{row_at, told}
use Rattle.ready_slots.proofs.slots.ReadySlots.put_named.Given as goal

abbrev pub invariant-loop-slot : goal.invariant-loop-slot
invariant-loop-slot l =
    let m = l.message in
    (q : List ℕ) (c : Option (List ℕ)) → put_where (is_any_offered m.queue l.slot-iterator q c) (row_at l.stamp m) (told q c l.self)
    ≡ put_where (is_any_offered m.queue m.slots q c) (row_at l.stamp m) (told q c l.fn.self)
