use Rattle.history_laws.proofs.Committing.{arrival_is_proper}
use Rattle.history_laws.proofs.fates.arrival_is_proper.Goals as goal

pub returns : goal.returns
returns c = arrival_is_proper
