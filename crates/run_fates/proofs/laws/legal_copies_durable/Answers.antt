use Rattle.run_fates.proofs.Keeping.{legal_copies_durable}
use Rattle.run_fates.proofs.laws.legal_copies_durable.Goals as goal

pub returns : goal.returns
returns c = legal_copies_durable
