use Rattle.rule_text.proofs.PrintHasText.{text_is_readable}
use Rattle.rule_text.proofs.laws.text_is_readable.Goals as goal

pub returns : goal.returns
returns c = text_is_readable
