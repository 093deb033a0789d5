use Rattle.history_laws.proofs.Committing.{rollback_is_proper}
use Rattle.history_laws.proofs.fates.rollback_is_proper.Goals as goal

pub returns : goal.returns
returns c = rollback_is_proper
