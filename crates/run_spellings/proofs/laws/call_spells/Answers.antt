use Rattle.run_spellings.proofs.Calling.{call_spells}
use Rattle.run_spellings.proofs.laws.call_spells.Goals as goal

pub returns : goal.returns
returns c = call_spells
