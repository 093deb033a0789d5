use Rattle.run_laws.proofs.Worlds.{opens_valid}
use Rattle.run_laws.proofs.laws.opens_valid.Goals as goal

pub returns : goal.returns
returns c = opens_valid
