use Rattle.statement_laws.proofs.Stepping.{enqueue_keeps_standing}
use Rattle.statement_laws.proofs.laws.enqueue_keeps_standing.Goals as goal

pub returns : goal.returns
returns c = enqueue_keeps_standing
