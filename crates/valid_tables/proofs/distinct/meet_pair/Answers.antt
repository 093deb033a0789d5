use Rattle.std.proofs.Common.{true, cond, ◌&&◌, ◌∙◌, ap}
use Rattle.std.specs.Str.{bytes_eq}
use Rattle.valid_tables.specs.Met.{has_pair}
use Rattle.valid_tables.proofs.Keys.{names_are, or_before}
use Rattle.valid_tables.proofs.distinct.meet_pair.Goals as goal

pub returns-clause-met : goal.returns-clause-met
returns-clause-met c = λ q r.
    let old = has_pair c.args.met.now q r in
    let first = c.in_ok-copied.field-0 in
    let second = c.in_ok-copied-2.field-0 in
    let equal = names_are (first, second) (q, r) ∙ ap (λ n. bytes_eq n q && bytes_eq second r) c.in_ok-copied.ensures ∙ ap (λ n. bytes_eq c.args.first.now q && bytes_eq n r) c.in_ok-copied-2.ensures in
    c.in_ok-insert.ensures.updates.0 (q, r) ∙ ap (λ b. cond b true old) equal ∙ or_before (bytes_eq c.args.first.now q && bytes_eq c.args.second.now r) old
