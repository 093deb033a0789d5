use Rattle.history_laws.proofs.Sending.{sent_is_remote}
use Rattle.history_laws.proofs.histories.sent_is_remote.Goals as goal

pub returns : goal.returns
returns c = sent_is_remote
