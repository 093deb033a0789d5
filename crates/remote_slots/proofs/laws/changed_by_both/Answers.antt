use Rattle.remote_slots.proofs.Changing.{changed_by_both}
use Rattle.remote_slots.proofs.laws.changed_by_both.Goals as goal

pub returns : goal.returns
returns c = changed_by_both
