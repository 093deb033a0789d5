-- What was copied so far, and the parts that are left.
use Rattle.std.proofs.Common.{◌≡◌, ◌++◌}
use Rattle.rule_conditions.proofs.condition.+copy_of.Given as goal

abbrev pub invariant-loop-part : goal.invariant-loop-part
invariant-loop-part l = l.copies ++ l.part-iterator ≡ l.initial.part-iterator

abbrev pub invariant-loop-part-2 : goal.invariant-loop-part-2
invariant-loop-part-2 l = l.copies ++ l.part-iterator ≡ l.initial.part-iterator
