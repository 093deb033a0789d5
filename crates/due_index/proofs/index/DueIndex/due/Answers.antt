use Rattle.std.proofs.Common.{ap, ◌∙◌}
use Rattle.std.specs.Option.{option_map}
use Rattle.due_index.specs.Due.{triple, is_due}
use Rattle.row_tree.specs.Found.{kept_by}
use Rattle.due_index.proofs.DueLemmas.{due_first}
use Rattle.due_index.proofs.index.DueIndex.due.Goals as goal

pub returns-clause-first : goal.returns-clause-first
returns-clause-first c =
    let e = due_first c.args.moment c.self.inside.rows c.get.ensures.rising in
    let first = ap (kept_by (is_due c.args.moment)) c.get.ensures.row in
    rw (← c.self.view_is) (c.within.ensures ∙ ap (option_map triple) (first ∙ e))
