use Rattle.choice_laws.proofs.Edited.{stamps_stay_below}
use Rattle.choice_laws.proofs.laws.stamps_stay_below.Goals as goal

pub returns : goal.returns
returns c = stamps_stay_below
