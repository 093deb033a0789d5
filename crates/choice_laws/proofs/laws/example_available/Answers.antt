use Rattle.std.proofs.Common.{refl}
use Rattle.choice_laws.proofs.laws.example_available.Goals as goal

pub returns : goal.returns
returns c = record { first = refl; stands = refl; third = refl }
