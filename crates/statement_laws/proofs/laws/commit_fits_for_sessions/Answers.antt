use Rattle.statement_laws.proofs.Ending.{commit_fits_for_sessions}
use Rattle.statement_laws.proofs.laws.commit_fits_for_sessions.Goals as goal

pub returns : goal.returns
returns c = commit_fits_for_sessions
