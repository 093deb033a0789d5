-- Each call takes a frame off.
use Rattle.std.proofs.Common.{length}
use Rattle.rule_text.proofs.outline.+wrapped.Given as goal

abbrev pub decreases-wrapped : goal.decreases-wrapped
decreases-wrapped l = length l.frames
