use Rattle.history_laws.proofs.Looking.{dequeue_marks_local}
use Rattle.history_laws.proofs.histories.dequeue_marks_local.Goals as goal

pub returns : goal.returns
returns c = dequeue_marks_local
