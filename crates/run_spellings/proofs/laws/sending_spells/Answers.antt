use Rattle.run_spellings.proofs.Sending.{sending_spells}
use Rattle.run_spellings.proofs.laws.sending_spells.Goals as goal

pub returns : goal.returns
returns c = sending_spells
