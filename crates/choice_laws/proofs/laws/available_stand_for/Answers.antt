use Rattle.choice_laws.proofs.Available.{available_stands}
use Rattle.choice_laws.proofs.laws.available_stand_for.Goals as goal

pub returns : goal.returns
returns c = λ l m h. available_stands l m h
