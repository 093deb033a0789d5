use Rattle.rule_text.proofs.PrintReadable.{readable_prints}
use Rattle.rule_text.proofs.laws.readable_prints.Goals as goal

pub returns : goal.returns
returns c = readable_prints
