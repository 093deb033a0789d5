use Rattle.valid_laws.proofs.Retrying.{rollback_fits}
use Rattle.valid_laws.proofs.laws.rollback_fits.Goals as goal

pub returns : goal.returns
returns c = rollback_fits
