use Rattle.history_laws.proofs.Staying.{local_stays}
use Rattle.history_laws.proofs.histories.local_stays.Goals as goal

pub returns : goal.returns
returns c = local_stays
