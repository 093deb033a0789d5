use Rattle.ready_slots.proofs.Changing.{last_put}
use Rattle.ready_slots.proofs.laws.last_put.Goals as goal

pub returns : goal.returns
returns c = last_put
