use Rattle.statement_laws.proofs.Ending.{rollback_fits_for_sessions}
use Rattle.statement_laws.proofs.laws.rollback_fits_for_sessions.Goals as goal

pub returns : goal.returns
returns c = rollback_fits_for_sessions
