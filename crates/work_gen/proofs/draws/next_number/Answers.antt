-- The sum wraps over a product that has wrapped.
use Rattle.std.proofs.Math.Nat.{mod-add-mod}
use Rattle.std.proofs.Common.{◌*◌, ◌^◌}
use Rattle.work_gen.specs.Draws.{next_number}
use Rattle.work_gen.proofs.draws.next_number.Goals as goal

pub returns : goal.returns
unfolding next_number
returns c = mod-add-mod (c.args.number * 6364136223846793005) (2 ^ 64) 1442695040888963407
