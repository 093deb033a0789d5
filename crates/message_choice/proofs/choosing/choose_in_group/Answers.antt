use Rattle.std.proofs.Common.{ap, ◌∙◌}
use Rattle.queue_rows.specs.Dequeueing.{end_of_group, found_or}
use Rattle.message_choice.specs.Asking.{look_of}
use Rattle.message_choice.proofs.Navigating.{nearest_in_group}
use Rattle.message_choice.proofs.choosing.choose_in_group.Goals as goal

pub returns-clause-choice : goal.returns-clause-choice
returns-clause-choice g c =
    let l = look_of c.args.asking.now in
    let messages = g.S.Search.rows_of c.args.messages.now in
    c.found_or.ensures.choice ∙ ap (found_or end_of_group) (c.nearest.ensures.message ∙ nearest_in_group l messages c.args.position.now)
