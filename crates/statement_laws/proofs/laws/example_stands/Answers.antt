use Rattle.statement_laws.proofs.Example.{example_stands}
use Rattle.statement_laws.proofs.laws.example_stands.Goals as goal

pub returns : goal.returns
returns c = example_stands
