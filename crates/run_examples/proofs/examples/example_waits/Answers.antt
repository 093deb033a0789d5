use Rattle.run_examples.proofs.Histories.{example_is_waited}
use Rattle.run_examples.proofs.examples.example_waits.Goals as goal

pub returns : goal.returns
returns c = example_is_waited
