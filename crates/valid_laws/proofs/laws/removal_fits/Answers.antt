use Rattle.valid_laws.proofs.Pending.{removal_fits}
use Rattle.valid_laws.proofs.laws.removal_fits.Goals as goal

pub returns : goal.returns
returns c = removal_fits
