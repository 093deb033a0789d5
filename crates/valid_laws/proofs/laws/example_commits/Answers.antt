use Rattle.std.proofs.Common.{refl}
use Rattle.valid_laws.proofs.laws.example_commits.Goals as goal

pub returns : goal.returns
returns c = refl
