use Rattle.rule_text.proofs.Complete.{one_condition}
use Rattle.rule_text.proofs.laws.text_has_one_condition.Goals as goal

pub returns : goal.returns
returns c = one_condition
