use Rattle.run_laws.proofs.Grouping.{step_keeps_groups}
use Rattle.run_laws.proofs.laws.step_keeps_groups.Goals as goal

pub returns : goal.returns
returns c = step_keeps_groups
