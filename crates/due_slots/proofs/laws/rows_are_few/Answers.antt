use Rattle.due_slots.proofs.Counting.{few}
use Rattle.due_slots.proofs.laws.rows_are_few.Goals as goal

pub returns : goal.returns
returns c = few
