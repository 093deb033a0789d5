use Rattle.run_spellings.proofs.Worlds.{legal_is_spellable}
use Rattle.run_spellings.proofs.laws.legal_is_spellable.Goals as goal

pub returns : goal.returns
returns c = legal_is_spellable
