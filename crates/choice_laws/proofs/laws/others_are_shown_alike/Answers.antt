use Rattle.choice_laws.proofs.Shown.{others_are_shown_alike}
use Rattle.choice_laws.proofs.laws.others_are_shown_alike.Goals as goal

pub returns : goal.returns
returns c = others_are_shown_alike
