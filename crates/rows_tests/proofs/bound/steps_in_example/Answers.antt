use Rattle.std.proofs.Common.{refl}
use Rattle.rows_tests.proofs.bound.steps_in_example.Goals as goal

pub returns : goal.returns
returns c = record { free = refl; nearest = refl; held = refl; next = refl }
