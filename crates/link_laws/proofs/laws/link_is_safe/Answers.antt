use Rattle.link_laws.proofs.Links.{link_is_safe}
use Rattle.link_laws.proofs.laws.link_is_safe.Goals as goal

pub returns : goal.returns
returns c = link_is_safe
