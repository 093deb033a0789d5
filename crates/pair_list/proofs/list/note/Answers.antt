use Rattle.std.proofs.Common.{sym, ◌∙◌}
use Rattle.std.specs.List.{find}
use Rattle.pair_list.specs.Places.{is_of}
use Rattle.row_tree.proofs.Finding.{none_found}
use Rattle.pair_list.proofs.Pairs.{free_for, is_none}
use Rattle.pair_list.proofs.list.note.Goals as goal

pub put-requires-clause-free : goal.put-requires-clause-free
put-requires-clause-free c =
    let place = c.args.place in
    let places = c.args.places.now in
    let own = is_of place.first place.second in
    free_for place places (none_found own places (is_none (find own places) (sym c.is_told.ensures ∙ c.if-is_told.false)))
