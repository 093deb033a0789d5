use Rattle.run_turns.proofs.Ended.{ended_stays}
use Rattle.run_turns.proofs.laws.ended_stays.Goals as goal

pub returns : goal.returns
returns c = ended_stays
