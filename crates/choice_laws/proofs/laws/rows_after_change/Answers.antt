use Rattle.choice_laws.proofs.Edited.{rows_after_change}
use Rattle.choice_laws.proofs.laws.rows_after_change.Goals as goal

pub returns : goal.returns
returns c = rows_after_change
