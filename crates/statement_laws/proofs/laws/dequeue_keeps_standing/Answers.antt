use Rattle.statement_laws.proofs.Stepping.{dequeue_keeps_standing}
use Rattle.statement_laws.proofs.laws.dequeue_keeps_standing.Goals as goal

pub returns : goal.returns
returns c = dequeue_keeps_standing
