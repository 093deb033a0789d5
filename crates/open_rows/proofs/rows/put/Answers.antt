use Rattle.std.proofs.Common.{◌<◌, List, length, ap, sym, subst, ◌∙◌}
use Rattle.std.specs.Prelude.{position}
use Rattle.open_rows.proofs.NamedLemmas.{name_of_same}
use Rattle.open_rows.proofs.rows.put.Goals as goal

pub set-requires-clause-name : goal.set-requires-clause-name
set-requires-clause-name g c =
    let same = g.R.Keyed.same in
    let row = c.args.row in
    let rows = c.args.rows.now.items in
    let at = c.in-Some.at in
    let within = subst (λ (xs : List g.row.R.Denot). at < length xs) c.rows.ensures c.in-Some.ensures.within in
    let found = sym (c.in-Some.ensures.first ∙ ap (position (λ r. same r row)) c.rows.ensures) in
    name_of_same g.R.Named.name_of same row rows at (g.met.R.Keyed.has_name row) found within
