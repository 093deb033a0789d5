use Rattle.valid_laws.proofs.Undone.{due_fits}
use Rattle.valid_laws.proofs.laws.due_fits.Goals as goal

pub returns : goal.returns
returns c = due_fits
