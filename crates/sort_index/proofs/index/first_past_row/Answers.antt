use Rattle.std.proofs.Common.{◌∙◌}
use Rattle.sort_index.proofs.Groups.{first_row_any}
use Rattle.sort_index.proofs.index.first_past_row.Goals as goal

pub returns-in-None-clause-first : goal.returns-in-None-clause-first
returns-in-None-clause-first c = rw c.in-None.is (c.get.ensures.row ∙ first_row_any c.args.rows.now)
