use Rattle.due_slots.proofs.Indexing.{removing}
use Rattle.due_slots.proofs.laws.removing_indexes.Goals as goal

pub returns : goal.returns
returns c = λ keeps before after m rows differs indexed. removing keeps before after m rows indexed differs
