use Rattle.run_spellings.proofs.Keeping.{commit_keeps_rows}
use Rattle.run_spellings.proofs.laws.commit_keeps_rows.Goals as goal

pub returns : goal.returns
returns c = commit_keeps_rows
