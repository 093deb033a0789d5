use Rattle.std.proofs.Common.{sym}
use Rattle.script_text.proofs.Cuts.{cut_at, uncut}
use Rattle.script_text.proofs.reading.cut_line.Goals as goal

pub returns-in-Some-clause-lines : goal.returns-in-Some-clause-lines
returns-in-Some-clause-lines c = cut_at c.args.text.now c.in-Some.at (sym c.in-Some.ensures.end) c.in-Some.ensures.within

pub returns-in-None-clause-lines : goal.returns-in-None-clause-lines
returns-in-None-clause-lines c = uncut c.args.text.now (sym c.in-None.ensures.end)
