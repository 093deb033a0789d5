use Rattle.due_slots.proofs.Telling.{joined_tells}
use Rattle.due_slots.proofs.laws.joined_tells.Goals as goal

pub returns : goal.returns
returns c = joined_tells
