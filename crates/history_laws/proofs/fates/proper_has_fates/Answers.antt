use Rattle.history_laws.proofs.Fating.{proper_has_fates}
use Rattle.history_laws.proofs.fates.proper_has_fates.Goals as goal

pub returns : goal.returns
returns c = proper_has_fates
