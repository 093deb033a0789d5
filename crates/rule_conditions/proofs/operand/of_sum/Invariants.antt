use Rattle.std.proofs.Common.{◌≡◌}
use Rattle.std.specs.List.{fold}
use Rattle.rule_conditions.specs.Operands.{seen}
use Rattle.rule_conditions.specs.Values.{term_added, sum_value}
use Rattle.rule_conditions.proofs.operand.of_sum.Given as goal

-- the terms that are left, folded onto the value so far
abbrev pub invariant-loop-term : goal.invariant-loop-term
invariant-loop-term l =
    fold (term_added l.fn.fields l.fn.facts) (seen l.value) l.term-iterator ≡ sum_value l.fn.fields l.fn.facts l.fn.sum
