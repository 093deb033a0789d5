use Rattle.std.proofs.Common.{◌≡◌, ◌++◌, map, take, drop}
use Rattle.queue_rows.specs.Commits.{slot_at_commit}
use Rattle.sessions.proofs.completed.complete_slots.Given as goal

abbrev pub invariant-loop-at : goal.invariant-loop-at
invariant-loop-at l = map (slot_at_commit l.moment) (take l.at l.slots) ++ drop l.at l.slots ≡ map (slot_at_commit l.moment) l.fn.slots

abbrev pub decreases-loop-at : goal.decreases-loop-at
decreases-loop-at l = l.at
