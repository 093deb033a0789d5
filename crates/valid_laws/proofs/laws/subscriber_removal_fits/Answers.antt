use Rattle.valid_laws.proofs.Dropping.{subscriber_removal_fits}
use Rattle.valid_laws.proofs.laws.subscriber_removal_fits.Goals as goal

pub returns : goal.returns
returns c = subscriber_removal_fits
