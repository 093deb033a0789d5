use Rattle.statement_laws.proofs.Standing.{standing_may_end}
use Rattle.statement_laws.proofs.laws.standing_may_end.Goals as goal

pub returns : goal.returns
returns c = standing_may_end
