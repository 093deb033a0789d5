use Rattle.run_laws.proofs.Worlds.{step_keeps_valid}
use Rattle.run_laws.proofs.laws.step_keeps_valid.Goals as goal

pub returns : goal.returns
returns c = step_keeps_valid
