use Rattle.choice_laws.proofs.Searching.{first_is_least}
use Rattle.choice_laws.proofs.laws.first_is_least.Goals as goal

pub returns : goal.returns
returns c = first_is_least
