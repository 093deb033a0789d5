use Rattle.history_laws.proofs.Admitting.{copy_may_be_taken_in}
use Rattle.history_laws.proofs.histories.copy_may_be_taken_in.Goals as goal

pub returns : goal.returns
returns c = copy_may_be_taken_in
