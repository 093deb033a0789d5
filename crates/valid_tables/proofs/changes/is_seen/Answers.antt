use Rattle.std.proofs.Common.{◌∙◌}
use Rattle.valid_tables.proofs.Pairs.{same_pair}
use Rattle.valid_tables.proofs.changes.is_seen.Goals as goal

pub returns : goal.returns
returns c = c.has.ensures ∙ same_pair c.args.row.now c.args.tables.now.seen
