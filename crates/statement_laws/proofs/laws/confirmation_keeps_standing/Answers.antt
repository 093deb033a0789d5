use Rattle.statement_laws.proofs.Standing.{confirmation_keeps_standing}
use Rattle.statement_laws.proofs.laws.confirmation_keeps_standing.Goals as goal

pub returns : goal.returns
returns c = confirmation_keeps_standing
