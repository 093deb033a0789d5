use Rattle.run_fates.proofs.Arrivals.{legal_has_arrivals}
use Rattle.run_fates.proofs.laws.legal_has_arrivals.Goals as goal

pub returns : goal.returns
returns c = legal_has_arrivals
