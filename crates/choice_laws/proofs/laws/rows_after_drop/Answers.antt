use Rattle.choice_laws.proofs.Edited.{rows_after_drop}
use Rattle.choice_laws.proofs.laws.rows_after_drop.Goals as goal

pub returns : goal.returns
returns c = λ queue consumer entries dropped. rows_after_drop queue consumer dropped entries
