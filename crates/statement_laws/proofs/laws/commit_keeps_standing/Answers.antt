use Rattle.statement_laws.proofs.Standing.{commit_keeps_standing}
use Rattle.statement_laws.proofs.laws.commit_keeps_standing.Goals as goal

pub returns : goal.returns
returns c = commit_keeps_standing
