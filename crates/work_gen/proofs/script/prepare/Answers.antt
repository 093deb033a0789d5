-- The first session has the three statements.
use Rattle.std.proofs.Common.{◌≡◌, arith}
use Rattle.std.proofs.lemmas.Grind.{common_steps}
use Rattle.work_gen.proofs.script.prepare.Goals as goal

pub returns : goal.returns
returns c = let first : c.args.session ≡ 0 = omega arith in rw first (grind (arith, common_steps))
