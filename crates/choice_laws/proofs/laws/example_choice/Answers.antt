use Rattle.std.proofs.Common.{refl}
use Rattle.choice_laws.proofs.laws.example_choice.Goals as goal

pub returns : goal.returns
returns c = record { chosen_first = refl; rows_first = refl; chosen_next = refl; rows_next = refl }
