use Rattle.history_laws.proofs.Making.{commit_keeps_made}
use Rattle.history_laws.proofs.histories.commit_keeps_made.Goals as goal

pub returns : goal.returns
returns c = commit_keeps_made
