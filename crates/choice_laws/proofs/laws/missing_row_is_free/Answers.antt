use Rattle.choice_laws.proofs.Edited.{missing_row_is_free}
use Rattle.choice_laws.proofs.laws.missing_row_is_free.Goals as goal

pub returns : goal.returns
returns c = missing_row_is_free
