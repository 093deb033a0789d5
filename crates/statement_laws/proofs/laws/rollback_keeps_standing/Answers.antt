use Rattle.statement_laws.proofs.Standing.{rollback_keeps_standing}
use Rattle.statement_laws.proofs.laws.rollback_keeps_standing.Goals as goal

pub returns : goal.returns
returns c = rollback_keeps_standing
