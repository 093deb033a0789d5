use Rattle.std.proofs.Common.{length}
use Rattle.script_text.proofs.earlier.sum_of.Given as goal

abbrev pub decreases-loop-first : goal.decreases-loop-first
decreases-loop-first l = length l.rest
