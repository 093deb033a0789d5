use Rattle.valid_laws.proofs.Pending.{pending_fits}
use Rattle.valid_laws.proofs.laws.pending_fits.Goals as goal

pub returns : goal.returns
returns c = pending_fits
