use Rattle.statement_laws.proofs.Stepping.{arrival_keeps_standing}
use Rattle.statement_laws.proofs.laws.arrival_keeps_standing.Goals as goal

pub returns : goal.returns
returns c = arrival_keeps_standing
