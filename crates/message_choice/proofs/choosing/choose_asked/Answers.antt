use Rattle.std.proofs.Common.{Option, ap, ◌∙◌}
use denote.Ref.{Bor}
use Rattle.std.specs.Prelude.{option_copied}
use Rattle.queue_rows.specs.declared.session.Position.{Position}
use Rattle.message_choice.specs.Asking.{look_of}
use Rattle.message_choice.specs.Offered.{most_looks}
use Rattle.message_choice.specs.Wanted.{filter_for}
use Rattle.message_choice.specs.declared.asking.Filter.TheVariants as filters
use Rattle.message_choice.proofs.Navigating.{from_nowhere, steps_by}
use Rattle.message_choice.proofs.Walking.{twice}
use Rattle.message_choice.proofs.choosing.choose_asked.Goals as goal

pub returns-in-None-clause-steps : goal.returns-in-None-clause-steps
returns-in-None-clause-steps g c =
    let l = look_of c.args.asking.now in
    let messages = g.S.Search.rows_of c.args.messages.now in
    let pick = c.args.asking.now.pick.now in
    steps_by l messages (filter_for pick.navigation (option_copied pick.position) pick.table.now.grouped) filters.All
    (ap (λ (o : Option (Bor Position)). filter_for pick.navigation (option_copied o) pick.table.now.grouped) c.in-None.is ∙ from_nowhere pick.navigation pick.table.now.grouped)
    c.choose_first.new.steps c.args.steps.now (twice c.choose_first.new.steps c.args.steps.now (most_looks l filters.All messages) c.choose_first.ensures.steps)
