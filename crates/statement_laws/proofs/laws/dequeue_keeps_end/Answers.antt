use Rattle.statement_laws.proofs.Ending.{dequeue_keeps_end}
use Rattle.statement_laws.proofs.laws.dequeue_keeps_end.Goals as goal

pub returns : goal.returns
returns c = dequeue_keeps_end
