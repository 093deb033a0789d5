use Rattle.history_laws.proofs.Judging.{administration_is_proper}
use Rattle.history_laws.proofs.fates.administration_is_proper.Goals as goal

pub returns : goal.returns
returns c = administration_is_proper
