use Rattle.run_spellings.proofs.Rules.{rule_is_read_again}
use Rattle.run_spellings.proofs.laws.rule_is_read_again.Goals as goal

pub returns : goal.returns
returns c = rule_is_read_again
