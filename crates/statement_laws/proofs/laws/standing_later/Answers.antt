use Rattle.statement_laws.proofs.Standing.{standing_later}
use Rattle.statement_laws.proofs.laws.standing_later.Goals as goal

pub returns : goal.returns
returns c = standing_later
