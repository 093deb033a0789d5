use Rattle.std.proofs.Common.{◌≤◌, length}
use Rattle.aq_disk.proofs.file.fill.Given as goal

abbrev pub invariant-loop : goal.invariant-loop
invariant-loop g l = l.filled ≤ length l.into
