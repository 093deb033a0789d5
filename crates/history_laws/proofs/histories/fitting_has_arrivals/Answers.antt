use Rattle.history_laws.proofs.Arriving.{fitting_has_arrivals}
use Rattle.history_laws.proofs.histories.fitting_has_arrivals.Goals as goal

pub returns : goal.returns
returns c = fitting_has_arrivals
