use Rattle.std.proofs.Common.{sym}
use Rattle.message_index.proofs.StampLemmas.{stamp_there}
use Rattle.message_index.proofs.message_index.MessageIndex.stamp_at.Goals as goal

pub returns : goal.returns
returns c = rw (← c.self.view_is) (stamp_there c.self.inside.entries c.args.at c.in-Some.entry.now (sym c.in-Some.ensures))
