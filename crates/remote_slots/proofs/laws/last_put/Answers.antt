use Rattle.remote_slots.proofs.Changing.{last_put}
use Rattle.remote_slots.proofs.laws.last_put.Goals as goal

pub returns : goal.returns
returns c = last_put
