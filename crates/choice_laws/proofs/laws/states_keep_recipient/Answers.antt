use Rattle.choice_laws.proofs.Shown.{states_keep_recipient}
use Rattle.choice_laws.proofs.laws.states_keep_recipient.Goals as goal

pub returns : goal.returns
returns c = states_keep_recipient
