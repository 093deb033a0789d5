use Rattle.run_fates.proofs.Arrivals.{legal_sees_once}
use Rattle.run_fates.proofs.laws.legal_sees_once.Goals as goal

pub returns : goal.returns
returns c = legal_sees_once
