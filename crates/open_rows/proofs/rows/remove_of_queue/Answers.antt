use Rattle.std.proofs.Common.{◌<◌, List, Bool, length, not, filter, ap, sym, subst, ◌∙◌}
use Rattle.std.specs.Prelude.{position}
use Rattle.std.specs.Str.{bytes_eq}
use Rattle.open_rows.specs.Rows.{Rows}
use Rattle.open_rows.proofs.NamedLemmas.{all_stay, passes_at, stays_without}
use Rattle.open_rows.proofs.rows.remove_of_queue.Goals as goal

pub loop-at-preserved : goal.loop-at-preserved
loop-at-preserved g c =
    let goes : g.row.R.Denot → Bool = λ r. bytes_eq (g.R.Named.name_of r) c.args.queue.now in
    let items = c.loop-at.rows.items in
    let at = c.in-Some.at in
    let within = subst (λ (xs : List g.row.R.Denot). at < length xs) c.rows.ensures c.in-Some.ensures.within in
    let found = sym (c.in-Some.ensures.first ∙ ap (position goes) c.rows.ensures) in
    let gone = passes_at goes items at found within in
    record {
      room = ap (λ (r : Rows g.row.R.Denot). r.room) c.remove.ensures ∙ c.loop-at.invariant.room;
      left = ap (λ (r : Rows g.row.R.Denot). filter (λ x. not (goes x)) r.items) c.remove.ensures ∙ stays_without goes items at gone.row gone.there gone.passes ∙ c.loop-at.invariant.left;
    }

pub returns : goal.returns
returns g c =
    let goes : g.row.R.Denot → Bool = λ r. bytes_eq (g.R.Named.name_of r) c.args.queue.now in
    let items = c.loop-at.rows.items in
    let none = sym (c.position.ensures.first ∙ ap (position goes) c.rows.ensures) ∙ c.in_default.is in
    let left = sym (all_stay goes items none) ∙ c.loop-at.invariant.left in
    λ i. record { items = left i; room = c.loop-at.invariant.room i }
