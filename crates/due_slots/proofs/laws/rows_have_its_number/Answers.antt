use Rattle.due_slots.proofs.Indexing.{rows_have}
use Rattle.due_slots.proofs.laws.rows_have_its_number.Goals as goal

pub returns : goal.returns
returns c = rows_have
