use Rattle.valid_laws.proofs.Retrying.{giving_up}
use Rattle.valid_laws.proofs.laws.giving_up_keeps_valid.Goals as goal

pub returns : goal.returns
returns c = giving_up
