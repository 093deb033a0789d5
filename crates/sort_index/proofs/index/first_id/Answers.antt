use Rattle.std.proofs.Common.{[], Option, ap, ◌∙◌}
use Rattle.std.specs.List.{find}
use Rattle.std.specs.Option.{option_map, option_map_or}
use Rattle.row_tree.specs.Found.{kept_by}
use Rattle.sort_index.specs.Ready.{is_at}
use Rattle.sort_index.specs.declared.group.Group.{Group}
use Rattle.sort_index.specs.declared.group.Ready.{Ready}
use Rattle.sort_index.proofs.Places.{first_at}
use Rattle.sort_index.proofs.index.first_id.Goals as goal

pub returns-clause-id : goal.returns-clause-id
returns-clause-id c =
    let place = c.args.place.now in
    let rows = c.in_ok-group.group.now.rows in
    let own = ap (λ (found : Option Group). option_map_or (λ (group : Group). group.rows) found []) c.in_ok-group.ensures.row in
    let first = ap (kept_by (is_at place)) c.first_from.ensures.first ∙ first_at place rows c.first_from.ensures.rising in
    c.id_at.ensures ∙ ap (option_map (λ (row : Ready). row.id)) (first ∙ ap (find (is_at place)) own)
