use Rattle.choice_laws.proofs.Shown.{moved_shows}
use Rattle.choice_laws.proofs.laws.moved_shows.Goals as goal

pub returns : goal.returns
returns c = moved_shows
