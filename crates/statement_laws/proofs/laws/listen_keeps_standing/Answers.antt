use Rattle.statement_laws.proofs.Stepping.{listen_keeps_standing}
use Rattle.statement_laws.proofs.laws.listen_keeps_standing.Goals as goal

pub returns : goal.returns
returns c = listen_keeps_standing
