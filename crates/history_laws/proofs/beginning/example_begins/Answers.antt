use Rattle.history_laws.proofs.Example.{example_begins}
use Rattle.history_laws.proofs.beginning.example_begins.Goals as goal

pub returns : goal.returns
returns c = example_begins
