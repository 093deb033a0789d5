use Rattle.run_turns.proofs.Resting.{drained_once-still}
use Rattle.run_turns.proofs.laws.still_stays.Goals as goal

pub returns : goal.returns
returns c = drained_once-still
