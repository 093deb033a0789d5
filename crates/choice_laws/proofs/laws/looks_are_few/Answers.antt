use Rattle.choice_laws.proofs.Looking.{looks_are_few}
use Rattle.choice_laws.proofs.laws.looks_are_few.Goals as goal

pub returns : goal.returns
returns c = looks_are_few
