use Rattle.due_slots.proofs.Indexing.{adding}
use Rattle.due_slots.proofs.laws.adding_indexes.Goals as goal

pub returns : goal.returns
returns c = λ keeps before after m rows differs indexed. adding keeps before after m rows indexed differs
