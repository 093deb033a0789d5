use Rattle.run_spellings.proofs.Changing.{due_spells}
use Rattle.run_spellings.proofs.laws.due_spells.Goals as goal

pub returns : goal.returns
returns c = due_spells
