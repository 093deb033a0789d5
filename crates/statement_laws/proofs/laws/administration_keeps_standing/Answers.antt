use Rattle.statement_laws.proofs.Administering.{administration_keeps_standing}
use Rattle.statement_laws.proofs.laws.administration_keeps_standing.Goals as goal

pub returns : goal.returns
returns c = administration_keeps_standing
