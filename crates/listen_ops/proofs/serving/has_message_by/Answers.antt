use Rattle.std.proofs.Common.{ap}
use Rattle.listen_ops.specs.Listened.{is_found}
use Rattle.listen_ops.proofs.serving.has_message_by.Goals as goal

pub returns-in-Found : goal.returns-in-Found
returns-in-Found g c = λ l is. ap is_found (c.in-Found.ensures.choice l is)

pub returns-in-EndOfGroup : goal.returns-in-EndOfGroup
returns-in-EndOfGroup g c = λ l is. ap is_found (c.in-EndOfGroup.ensures.choice l is)

pub returns : goal.returns
returns g c = λ l is. ap is_found (c.in-Nothing.ensures.choice l is)
