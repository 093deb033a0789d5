use Rattle.choice_laws.proofs.Standing.{rows_rise}
use Rattle.choice_laws.proofs.laws.rows_rise.Goals as goal

pub returns : goal.returns
returns c = rows_rise
