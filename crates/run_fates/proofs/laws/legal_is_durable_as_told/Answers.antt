use Rattle.run_fates.proofs.Telling.{legal_is_durable_as_told}
use Rattle.run_fates.proofs.laws.legal_is_durable_as_told.Goals as goal

pub returns : goal.returns
returns c = legal_is_durable_as_told
