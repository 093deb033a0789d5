use Rattle.statement_laws.proofs.Standing.{empty_are_standing}
use Rattle.statement_laws.proofs.laws.empty_are_standing.Goals as goal

pub returns : goal.returns
returns c = empty_are_standing
