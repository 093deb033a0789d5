use Rattle.choice_laws.proofs.Looking.{both_searches_are_short}
use Rattle.choice_laws.proofs.laws.both_searches_are_short.Goals as goal

pub returns : goal.returns
returns c = both_searches_are_short
