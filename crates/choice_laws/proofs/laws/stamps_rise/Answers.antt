use Rattle.choice_laws.proofs.Edited.{stamps_rise}
use Rattle.choice_laws.proofs.laws.stamps_rise.Goals as goal

pub returns : goal.returns
returns c = stamps_rise
