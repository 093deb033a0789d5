-- What is left reads as the whole does.
use Rattle.std.proofs.Common.{◌≡◌, ◌≤◌, length}
use Rattle.rule_conditions.specs.Lexing.{limit, digits_at}
use Rattle.rule_text.proofs.numbers.digits_at.Given as goal

abbrev pub invariant-loop-byte : goal.invariant-loop-byte
invariant-loop-byte l = record {
  within : l.size ≤ limit l.negative;
  same : digits_at l.negative l.size l.rest ≡ digits_at l.fn.negative l.fn.first l.fn.rest;
}

abbrev pub decreases-loop-byte : goal.decreases-loop-byte
decreases-loop-byte l = length l.rest
