use Rattle.fit_laws.proofs.Telling.{fit_is_local}
use Rattle.fit_laws.proofs.laws.fit_is_local.Goals as goal

pub returns : goal.returns
returns c = fit_is_local
