use Rattle.script_text.proofs.Front.{needs_only_the_front}
use Rattle.script_text.proofs.laws.script_needs_only_the_front.Goals as goal

pub returns : goal.returns
returns c = needs_only_the_front
