use Rattle.valid_laws.proofs.Arriving.{confirmation_fits}
use Rattle.valid_laws.proofs.laws.confirmation_fits.Goals as goal

pub returns : goal.returns
returns c = confirmation_fits
