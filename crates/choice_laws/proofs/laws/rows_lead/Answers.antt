use Rattle.choice_laws.proofs.Standing.{rows_lead}
use Rattle.choice_laws.proofs.laws.rows_lead.Goals as goal

pub returns : goal.returns
returns c = rows_lead
