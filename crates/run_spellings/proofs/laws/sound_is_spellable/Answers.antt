use Rattle.run_spellings.proofs.Sounding.{sound_is_spellable}
use Rattle.run_spellings.proofs.laws.sound_is_spellable.Goals as goal

pub returns : goal.returns
returns c = sound_is_spellable
