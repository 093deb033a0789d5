use Rattle.statement_laws.proofs.Standing.{due_keeps_standing}
use Rattle.statement_laws.proofs.laws.due_keeps_standing.Goals as goal

pub returns : goal.returns
returns c = due_keeps_standing
