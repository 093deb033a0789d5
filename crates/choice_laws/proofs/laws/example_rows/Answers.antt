use Rattle.std.proofs.Common.{refl, arith}
use Rattle.choice_laws.proofs.laws.example_rows.Goals as goal

pub returns : goal.returns
returns c = record { rising = ((omega arith, (omega arith, tt)), ((omega arith, tt), (tt, tt))); rows = refl }
