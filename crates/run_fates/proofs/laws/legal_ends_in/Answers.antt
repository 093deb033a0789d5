use Rattle.run_fates.proofs.Lasting.{legal_ends_in}
use Rattle.run_fates.proofs.laws.legal_ends_in.Goals as goal

pub returns : goal.returns
returns c = legal_ends_in
