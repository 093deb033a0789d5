use Rattle.run_spellings.proofs.Worlds.{legal_commits_spell}
use Rattle.run_spellings.proofs.laws.legal_commits_spell.Goals as goal

pub returns : goal.returns
returns c = legal_commits_spell
