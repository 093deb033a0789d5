use Rattle.std.proofs.Common.{◌≡◌, true}
use Rattle.std.specs.List.{list_all}
use Rattle.run_spellings.specs.SpellableRun.{has_text_rule}
use Rattle.run_spellings.proofs.texts.have_text_rules.Given as goal

-- where it is so of those that are left, it is so of all
abbrev pub invariant-loop-statement : goal.invariant-loop-statement
invariant-loop-statement l = list_all has_text_rule l.statement-iterator ≡ true → list_all has_text_rule l.statements ≡ true
