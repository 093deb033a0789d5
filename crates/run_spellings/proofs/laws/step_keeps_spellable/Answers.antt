use Rattle.run_spellings.proofs.Worlds.{step_keeps_spellable}
use Rattle.run_spellings.proofs.laws.step_keeps_spellable.Goals as goal

pub returns : goal.returns
returns c = step_keeps_spellable
