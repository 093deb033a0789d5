use Rattle.run_fates.proofs.Lasting.{legal_has_fates}
use Rattle.run_fates.proofs.laws.legal_has_fates.Goals as goal

pub returns : goal.returns
returns c = legal_has_fates
