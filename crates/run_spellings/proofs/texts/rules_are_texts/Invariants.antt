use Rattle.std.proofs.Common.{◌≡◌, true}
use Rattle.run_spellings.specs.SpellableRun.{have_text_rules}
use Rattle.run_spellings.proofs.texts.rules_are_texts.Given as goal

-- where it is so of those that are left, it is so of all
abbrev pub invariant-loop-script : goal.invariant-loop-script
invariant-loop-script l = have_text_rules l.script-iterator ≡ true → have_text_rules l.scripts ≡ true
