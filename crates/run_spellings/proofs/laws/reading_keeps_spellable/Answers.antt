use Rattle.run_spellings.proofs.Worlds.{reading_keeps_spellable}
use Rattle.run_spellings.proofs.laws.reading_keeps_spellable.Goals as goal

pub returns : goal.returns
returns c = reading_keeps_spellable
