use Rattle.run_spellings.proofs.Examples.{example_data}
use Rattle.run_spellings.proofs.laws.example_data.Goals as goal

pub returns : goal.returns
returns c = example_data
