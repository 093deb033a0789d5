use Rattle.valid_laws.proofs.Making.{one_change_fits}
use Rattle.valid_laws.proofs.laws.one_change_fits.Goals as goal

pub returns : goal.returns
returns c = one_change_fits
