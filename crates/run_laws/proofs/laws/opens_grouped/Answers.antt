use Rattle.run_laws.proofs.Grouping.{opens_grouped}
use Rattle.run_laws.proofs.laws.opens_grouped.Goals as goal

pub returns : goal.returns
returns c = opens_grouped
