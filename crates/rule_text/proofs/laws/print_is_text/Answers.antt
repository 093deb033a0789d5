use Rattle.rule_text.proofs.PrintHasText.{print_is_text}
use Rattle.rule_text.proofs.laws.print_is_text.Goals as goal

pub returns : goal.returns
returns c = print_is_text
