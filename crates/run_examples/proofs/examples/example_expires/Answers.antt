use Rattle.run_examples.proofs.Histories.{example_is_expired}
use Rattle.run_examples.proofs.examples.example_expires.Goals as goal

pub returns : goal.returns
returns c = example_is_expired
