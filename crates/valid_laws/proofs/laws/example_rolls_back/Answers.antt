use Rattle.std.proofs.Common.{refl}
use Rattle.valid_laws.proofs.laws.example_rolls_back.Goals as goal

pub returns : goal.returns
returns c = refl
