use Rattle.std.proofs.Common.{ap, ◌∙◌}
use Rattle.remote_slots.specs.Searched.{first_from}
use Rattle.remote_slots.proofs.Walking.{finds_first}
use Rattle.remote_slots.proofs.rows.least_counted.Goals as goal

pub returns : goal.returns
returns g c =
    let entries = g.M.StampedMessages.entries c.args.messages.now in
    c.search_from.ensures
    ∙ ap (first_from c.args.schedule.now c.args.moment entries) c.first_row_past-first.ensures.first
    ∙ finds_first c.args.schedule.now c.args.moment entries c.args.rows.now.groups c.requires.rising c.requires.indexed
