use Rattle.std.proofs.Common.{◌≡◌}
use Rattle.rule_conditions.specs.Check.{terms_fault}
use Rattle.rule_conditions.proofs.fault.of_terms.Given as goal

abbrev pub invariant-loop-term : goal.invariant-loop-term
invariant-loop-term l = terms_fault l.fields l.computed l.term-iterator ≡ terms_fault l.fields l.computed l.terms
