use Rattle.run_fates.proofs.Keeping.{legal_confirms_seen}
use Rattle.run_fates.proofs.laws.legal_confirms_seen.Goals as goal

pub returns : goal.returns
returns c = legal_confirms_seen
