use Rattle.history_laws.proofs.Committing.{confirmation_is_proper}
use Rattle.history_laws.proofs.fates.confirmation_is_proper.Goals as goal

pub returns : goal.returns
returns c = confirmation_is_proper
