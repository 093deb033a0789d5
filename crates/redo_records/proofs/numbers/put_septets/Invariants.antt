use Rattle.std.proofs.Common.{◌≡◌, ◌+◌, ◌≤◌, ◌++◌, length}
use Rattle.std.specs.Prelude.{vec_capacity}
use Rattle.redo_journal.specs.Num.{num}
use Rattle.redo_records.proofs.numbers.put_septets.Given as goal

-- what is written and the spelling of the rest are the whole, and there is room for the rest
abbrev pub invariant-loop-rest : goal.invariant-loop-rest
invariant-loop-rest l = record {
  bytes : l.out.items ++ num l.rest ≡ l.fn.out.items ++ num l.number;
  room : length l.out.items + length (num l.rest) ≤ vec_capacity l.out;
}

abbrev pub decreases-loop-rest : goal.decreases-loop-rest
decreases-loop-rest l = l.rest
