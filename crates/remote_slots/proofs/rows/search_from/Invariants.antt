-- What the rows from the next one on lead to is what all led to.
use Rattle.std.proofs.Common.{◌≡◌, length}
use Rattle.std.specs.Prelude.{option_copied}
use Rattle.remote_slots.specs.Searched.{first_from, rows_from}
use Rattle.remote_slots.proofs.rows.search_from.Given as goal

abbrev pub invariant-loop-next : goal.invariant-loop-next
invariant-loop-next g l =
    let entries = g.M.StampedMessages.entries l.messages in
    first_from l.schedule l.moment entries (option_copied l.next) ≡ first_from l.schedule l.moment entries (option_copied l.first)

abbrev pub decreases-loop-next : goal.decreases-loop-next
decreases-loop-next g l = length (rows_from l.schedule (g.M.StampedMessages.entries l.messages) (option_copied l.next))
