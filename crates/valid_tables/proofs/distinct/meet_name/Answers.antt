use Rattle.std.proofs.Common.{true, cond, ◌∙◌, ap}
use Rattle.std.specs.Str.{bytes_eq}
use Rattle.valid_tables.specs.Met.{has_name}
use Rattle.valid_tables.proofs.Keys.{name_is, or_before}
use Rattle.valid_tables.proofs.distinct.meet_name.Goals as goal

pub returns-clause-met : goal.returns-clause-met
returns-clause-met c = λ q.
    let old = has_name c.args.met.now q in
    c.in_ok-insert.ensures.updates.0 q ∙ ap (λ b. cond b true old) (name_is c.in_ok-copied.field-0 q ∙ ap (λ n. bytes_eq n q) c.in_ok-copied.ensures) ∙ or_before (bytes_eq c.args.name.now q) old
