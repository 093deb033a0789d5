use Rattle.run_laws.proofs.Grouping.{reading_keeps_groups}
use Rattle.run_laws.proofs.laws.reading_keeps_groups.Goals as goal

pub returns : goal.returns
returns c = reading_keeps_groups
