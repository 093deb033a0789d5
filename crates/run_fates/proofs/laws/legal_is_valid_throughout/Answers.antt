use Rattle.run_fates.proofs.Throughout.{legal_is_valid_throughout}
use Rattle.run_fates.proofs.laws.legal_is_valid_throughout.Goals as goal

pub returns : goal.returns
returns c = legal_is_valid_throughout
