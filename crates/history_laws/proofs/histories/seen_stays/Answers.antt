use Rattle.history_laws.proofs.Seeing.{seen_stays}
use Rattle.history_laws.proofs.histories.seen_stays.Goals as goal

pub returns : goal.returns
returns c = seen_stays
