use Rattle.run_laws.proofs.Worlds.{legal_is_valid}
use Rattle.run_laws.proofs.laws.legal_is_valid.Goals as goal

pub returns : goal.returns
returns c = legal_is_valid
