-- What the rows that are left lead to is what all led to, and each row that was gone over was looked at.
use Rattle.std.proofs.Common.{◌≡◌, ◌+◌, length}
use Rattle.message_choice.specs.Asking.{look_of}
use Rattle.message_choice.specs.Searched.{first_in, looks_in}
use Rattle.message_choice.proofs.rows.search_in.Given as goal

abbrev pub invariant-loop-row : goal.invariant-loop-row
invariant-loop-row g l =
    let look = look_of l.asking in
    let entries = g.M.StampedMessages.entries l.messages in
    record {
      found : first_in look l.filter entries l.rows ≡ first_in look l.filter entries l.fn.rows;
      looked : l.steps + looks_in look l.filter entries l.rows ≡ l.fn.steps + looks_in look l.filter entries l.fn.rows;
    }

abbrev pub decreases-loop-row : goal.decreases-loop-row
decreases-loop-row g l = length l.rows
