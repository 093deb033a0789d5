use Rattle.run_spellings.proofs.Examples.{example_rules}
use Rattle.run_spellings.proofs.laws.example_rules.Goals as goal

pub returns : goal.returns
returns c = example_rules
