use Rattle.named_list.proofs.Groups.{named}
use Rattle.named_list.proofs.index.take_named.Goals as goal

pub returns-clause-name : goal.returns-clause-name
returns-clause-name c = named c.args.name.now c.args.groups.now c.take_at.result c.take_at.ensures.row
