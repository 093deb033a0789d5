-- How long a schedule waits after failures.
use Rattle.std.proofs.Common.{ℕ, ◌≤◌, ◌^◌, min}
use Rattle.std.proofs.Math.Nat.{min-le_right}
use Rattle.std.proofs.Math.Pow.{pow_mono}

pub short : (failures : ℕ) → 2 ^ min failures 10 ≤ 1024
short failures = pow_mono (min-le_right failures 10)
