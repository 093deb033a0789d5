use Rattle.std.proofs.Common.{◌≡◌, true, ap, ◌∙◌}
use Rattle.std.specs.Prelude.{option_copied}
use Rattle.place_keys.specs.Place.{stands_before}
use Rattle.queue_rows.specs.Dequeueing.{found_or, nothing}
use Rattle.message_choice.specs.Asking.{look_of}
use Rattle.message_choice.proofs.Navigating.{copied_each, nearest_past_group}
use Rattle.message_choice.proofs.choosing.choose_past_group.Goals as goal

pub returns-clause-choice : goal.returns-clause-choice
returns-clause-choice g c =
    let l = look_of c.args.asking.now in
    let messages = g.S.Search.rows_of c.args.messages.now in
    let after = c.place_before_groups-after.result in
    c.found_or.ensures.choice
    ∙ ap (found_or nothing) (c.nearest.ensures.message
    ∙ nearest_past_group l messages c.args.position.now (option_copied after) (λ m later. copied_each (λ place. stands_before place m.place ≡ true) after (c.place_before_groups-after.ensures m later)))
