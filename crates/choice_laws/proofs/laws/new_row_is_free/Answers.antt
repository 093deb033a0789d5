use Rattle.choice_laws.proofs.Edited.{new_row_is_free}
use Rattle.choice_laws.proofs.laws.new_row_is_free.Goals as goal

pub returns : goal.returns
returns c = new_row_is_free
