use Rattle.std.proofs.Common.{◌∙◌}
use Rattle.message_index.proofs.StampLemmas.{can_be_halved, counted}
use Rattle.message_index.proofs.message_index.count_before.Goals as goal

pub rank-requires : goal.rank-requires
rank-requires c = can_be_halved c.args.stamp c.args.entries.now c.requires

pub returns : goal.returns
returns c = c.rank.ensures ∙ counted c.args.stamp c.args.entries.now
