use Rattle.history_laws.proofs.Committing.{proper_grows}
use Rattle.history_laws.proofs.fates.proper_grows.Goals as goal

pub returns : goal.returns
returns c = proper_grows
