use Rattle.std.proofs.Common.{◌≡◌, ◌++◌, string_bytes}
use Rattle.rule_conditions.specs.Print.{terms_after, sum_text}
use Rattle.rule_text.proofs.printer.put_sum.Given as goal

-- the terms that are left make up the sum with what was put in
abbrev pub invariant-loop-term : goal.invariant-loop-term
invariant-loop-term l = string_bytes l.out ++ terms_after l.term-iterator ≡ string_bytes l.fn.out ++ sum_text l.fn.sum
