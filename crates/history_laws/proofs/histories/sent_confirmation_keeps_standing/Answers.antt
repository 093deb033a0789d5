use Rattle.history_laws.proofs.Marking.{sent_confirmation_keeps_standing}
use Rattle.history_laws.proofs.histories.sent_confirmation_keeps_standing.Goals as goal

pub returns : goal.returns
returns c = sent_confirmation_keeps_standing
