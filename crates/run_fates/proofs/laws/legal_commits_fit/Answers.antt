use Rattle.run_fates.proofs.Lasting.{legal_commits_fit}
use Rattle.run_fates.proofs.laws.legal_commits_fit.Goals as goal

pub returns : goal.returns
returns c = legal_commits_fit
