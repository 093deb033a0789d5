use Rattle.choice_laws.proofs.Chosen.{chosen_in_rows_lem}
use Rattle.choice_laws.proofs.laws.chosen_in_rows.Goals as goal

pub returns : goal.returns
returns c = chosen_in_rows_lem
