use Rattle.statement_laws.proofs.Leaving.{statements_keep_pending}
use Rattle.statement_laws.proofs.laws.statements_keep_pending.Goals as goal

pub returns : goal.returns
returns c = statements_keep_pending
