use Rattle.statement_laws.proofs.Ending.{may_end_later}
use Rattle.statement_laws.proofs.laws.may_end_later.Goals as goal

pub returns : goal.returns
returns c = may_end_later
