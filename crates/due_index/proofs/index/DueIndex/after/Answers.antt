use Rattle.std.proofs.Common.{ap, ◌∙◌}
use Rattle.std.specs.Option.{option_map}
use Rattle.due_index.specs.Due.{triple, is_due}
use Rattle.row_tree.specs.Found.{kept_by}
use Rattle.due_index.specs.declared.row.DueRow.{DueRow}
use Rattle.due_index.proofs.DueLemmas.{due_after}
use Rattle.due_index.proofs.index.DueIndex.after.Goals as goal

pub returns-clause-first : goal.returns-clause-first
returns-clause-first c =
    let row : DueRow = record { moment = c.args.row.0; id = c.args.row.1; slot = c.args.row.2 } in
    let e = due_after row c.args.moment c.self.inside.rows c.first_from.ensures.rising in
    let first = ap (kept_by (is_due c.args.moment)) c.first_from.ensures.first in
    rw (← c.self.view_is) (c.within.ensures ∙ ap (option_map triple) (first ∙ e))
