use Rattle.history_laws.proofs.Committing.{subscriber_removal_is_proper}
use Rattle.history_laws.proofs.fates.subscriber_removal_is_proper.Goals as goal

pub returns : goal.returns
returns c = subscriber_removal_is_proper
