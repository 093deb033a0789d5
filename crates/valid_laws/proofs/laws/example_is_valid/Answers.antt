use Rattle.std.proofs.Common.{refl}
use Rattle.queue_rows.specs.Valid.{is_valid}
use Rattle.valid_laws.proofs.laws.example_is_valid.Goals as goal

pub returns : goal.returns
unfolding is_valid
returns c = refl
