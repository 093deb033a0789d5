use Rattle.run_laws.proofs.Grouping.{legal_is_grouped}
use Rattle.run_laws.proofs.laws.legal_is_grouped.Goals as goal

pub returns : goal.returns
returns c = legal_is_grouped
