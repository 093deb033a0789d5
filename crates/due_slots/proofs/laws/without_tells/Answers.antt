use Rattle.due_slots.proofs.Telling.{without_tells}
use Rattle.due_slots.proofs.laws.without_tells.Goals as goal

pub returns : goal.returns
returns c = without_tells
