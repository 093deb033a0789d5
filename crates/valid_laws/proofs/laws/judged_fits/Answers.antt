use Rattle.valid_laws.proofs.Judging.{judged_fits}
use Rattle.valid_laws.proofs.laws.judged_fits.Goals as goal

pub returns : goal.returns
returns c = judged_fits
