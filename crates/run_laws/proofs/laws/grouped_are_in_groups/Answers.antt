use Rattle.run_laws.proofs.Grouping.{grouped_are_in_groups}
use Rattle.run_laws.proofs.laws.grouped_are_in_groups.Goals as goal

pub returns : goal.returns
returns c = grouped_are_in_groups
