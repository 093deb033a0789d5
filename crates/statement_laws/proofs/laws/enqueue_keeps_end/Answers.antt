use Rattle.statement_laws.proofs.Ending.{enqueue_keeps_end}
use Rattle.statement_laws.proofs.laws.enqueue_keeps_end.Goals as goal

pub returns : goal.returns
returns c = enqueue_keeps_end
