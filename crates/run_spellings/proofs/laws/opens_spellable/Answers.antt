use Rattle.run_spellings.proofs.Worlds.{opens_spellable}
use Rattle.run_spellings.proofs.laws.opens_spellable.Goals as goal

pub returns : goal.returns
returns c = opens_spellable
