use Rattle.due_slots.proofs.Naming.{names_due}
use Rattle.due_slots.proofs.laws.rows_name_due.Goals as goal

pub returns : goal.returns
returns c = names_due
