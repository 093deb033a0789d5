use Rattle.choice_laws.proofs.Going.{rows_go_on}
use Rattle.choice_laws.proofs.laws.rows_go_on.Goals as goal

pub returns : goal.returns
returns c = rows_go_on
