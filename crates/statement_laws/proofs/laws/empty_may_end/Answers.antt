use Rattle.statement_laws.proofs.Ending.{empty_may_end}
use Rattle.statement_laws.proofs.laws.empty_may_end.Goals as goal

pub returns : goal.returns
returns c = empty_may_end
