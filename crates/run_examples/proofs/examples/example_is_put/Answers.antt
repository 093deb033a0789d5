use Rattle.run_examples.proofs.Histories.{example_is_put}
use Rattle.run_examples.proofs.examples.example_is_put.Goals as goal

pub returns : goal.returns
returns c = example_is_put
