use Rattle.history_laws.proofs.Seeing.{fitting_sees_once}
use Rattle.history_laws.proofs.histories.fitting_sees_once.Goals as goal

pub returns : goal.returns
returns c = fitting_sees_once
