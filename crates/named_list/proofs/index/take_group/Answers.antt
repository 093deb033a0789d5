use Rattle.named_list.proofs.Groups.{own_names}
use Rattle.named_list.proofs.index.take_group.Goals as goal

pub returns-in-None-clause-name : goal.returns-in-None-clause-name
returns-in-None-clause-name c = own_names c.args.name
