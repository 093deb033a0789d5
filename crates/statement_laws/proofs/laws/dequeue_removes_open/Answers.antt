use Rattle.statement_laws.proofs.Taking.{dequeue_removes_open}
use Rattle.statement_laws.proofs.laws.dequeue_removes_open.Goals as goal

pub returns : goal.returns
returns c = dequeue_removes_open
