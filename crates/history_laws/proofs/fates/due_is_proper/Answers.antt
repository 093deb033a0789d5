use Rattle.history_laws.proofs.Committing.{due_is_proper}
use Rattle.history_laws.proofs.fates.due_is_proper.Goals as goal

pub returns : goal.returns
returns c = due_is_proper
