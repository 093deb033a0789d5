use Rattle.history_laws.proofs.Copying.{arriving_copies}
use Rattle.history_laws.proofs.histories.arriving_copies.Goals as goal

pub returns : goal.returns
returns c = arriving_copies
