use Rattle.std.proofs.Common.{◌≤◌, List, ap, sym, subst, ◌∙◌}
use Rattle.std.specs.Prelude.{option_copied}
use Rattle.sort_index.specs.declared.group.Ready.{Ready}
use Rattle.choice_laws.specs.Entries.{messages_of}
use Rattle.message_choice.specs.Asking.{look_of}
use Rattle.message_choice.specs.Searched.{first_in, looks_in}
use Rattle.message_choice.specs.Offered.{most_looks}
use Rattle.message_choice.proofs.Walking.{finds_nearest, looks_at_few, steps_of_all}
use Rattle.message_choice.proofs.rows.ReadyIndexSearch.nearest.Goals as goal

pub returns-clause-message : goal.returns-clause-message
returns-clause-message g c =
    let l = look_of c.args.asking.now in
    let entries = g.M.StampedMessages.entries c.args.messages.now in
    c.search_in.ensures.message
    ∙ ap (first_in l c.args.filter entries) c.rows_past-rows.ensures.rows
    ∙ finds_nearest l c.args.filter entries c.args.self.now.groups c.requires.rising c.requires.indexed (option_copied c.args.after)

pub returns-clause-steps : goal.returns-clause-steps
returns-clause-steps g c =
    let l = look_of c.args.asking.now in
    let entries = g.M.StampedMessages.entries c.args.messages.now in
    let rows = c.rows_past-rows.result in
    let most = most_looks l c.args.filter (messages_of entries) in
    let few : looks_in l c.args.filter entries rows ≤ most =
    subst (λ (rs : List Ready). looks_in l c.args.filter entries rs ≤ most) (sym c.rows_past-rows.ensures.rows)
    (looks_at_few l c.args.filter entries c.args.self.now.groups c.requires.rising c.requires.indexed (option_copied c.args.after)) in
    steps_of_all c.search_in.new.steps c.args.steps.now (looks_in l c.args.filter entries rows) most c.search_in.ensures.steps few
