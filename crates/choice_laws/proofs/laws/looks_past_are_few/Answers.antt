use Rattle.choice_laws.proofs.Looking.{looks_past_are_few}
use Rattle.choice_laws.proofs.laws.looks_past_are_few.Goals as goal

pub returns : goal.returns
returns c = looks_past_are_few
