use Rattle.row_laws.proofs.Distinctly.{finds_after_all}
use Rattle.row_laws.proofs.laws.finds_after_all.Goals as goal

pub returns : goal.returns
returns c = finds_after_all
