use Rattle.run_laws.proofs.Worlds.{reading_keeps_valid}
use Rattle.run_laws.proofs.laws.reading_keeps_valid.Goals as goal

pub returns : goal.returns
returns c = reading_keeps_valid
