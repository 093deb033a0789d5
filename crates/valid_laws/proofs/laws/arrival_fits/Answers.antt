use Rattle.valid_laws.proofs.Arriving.{arrival_fits}
use Rattle.valid_laws.proofs.laws.arrival_fits.Goals as goal

pub returns : goal.returns
returns c = arrival_fits
