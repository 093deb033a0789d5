use Rattle.choice_laws.proofs.Edited.{rows_stay}
use Rattle.choice_laws.proofs.laws.rows_stay.Goals as goal

pub returns : goal.returns
returns c = rows_stay
