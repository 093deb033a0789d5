use Rattle.statement_laws.proofs.Adding.{enqueue_adds_right}
use Rattle.statement_laws.proofs.laws.enqueue_adds_right.Goals as goal

pub returns : goal.returns
returns c = enqueue_adds_right
