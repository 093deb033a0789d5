use Rattle.std.proofs.Common.{◌≡◌, length}
use Rattle.row_locks.specs.Entries.{present}
use Rattle.row_locks.proofs.marks.MarksIterator.next.Given as goal

-- what is still to come stays
abbrev pub invariant-loop-first : goal.invariant-loop-first
invariant-loop-first l = present l.self-inside.entries.now ≡ l.fn.self

abbrev pub decreases-loop-first : goal.decreases-loop-first
decreases-loop-first l = length l.self-inside.entries.now
