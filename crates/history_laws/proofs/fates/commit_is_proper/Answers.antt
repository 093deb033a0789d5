use Rattle.history_laws.proofs.Committing.{commit_is_proper}
use Rattle.history_laws.proofs.fates.commit_is_proper.Goals as goal

pub returns : goal.returns
returns c = commit_is_proper
