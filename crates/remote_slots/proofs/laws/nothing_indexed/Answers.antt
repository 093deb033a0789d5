use Rattle.remote_slots.proofs.Changing.{nothing_indexed}
use Rattle.remote_slots.proofs.laws.nothing_indexed.Goals as goal

pub returns : goal.returns
returns c = nothing_indexed
