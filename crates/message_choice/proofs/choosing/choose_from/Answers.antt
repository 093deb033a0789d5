use Rattle.std.proofs.Common.{Some, ap}
use Rattle.queue_rows.specs.declared.statement.Navigation.{Navigation}
use Rattle.queue_rows.specs.declared.statement.Navigation.TheVariants as navigations
use Rattle.message_choice.specs.Asking.{look_of}
use Rattle.message_choice.specs.Offered.{most_looks}
use Rattle.message_choice.specs.Wanted.{filter_for}
use Rattle.message_choice.specs.declared.asking.Filter.TheVariants as filters
use Rattle.message_choice.proofs.Navigating.{steps_by}
use Rattle.message_choice.proofs.Walking.{twice}
use Rattle.message_choice.proofs.choosing.choose_from.Goals as goal

pub returns-in-First-clause-steps : goal.returns-in-First-clause-steps
returns-in-First-clause-steps g c =
    let l = look_of c.args.asking.now in
    let messages = g.S.Search.rows_of c.args.messages.now in
    let p = c.args.position.now in
    let pick = c.args.asking.now.pick.now in
    steps_by l messages (filter_for pick.navigation (Some p) pick.table.now.grouped) filters.All (ap (λ (n : Navigation). filter_for n (Some p) pick.table.now.grouped) c.in-First.is)
    c.choose_first.new.steps c.args.steps.now (twice c.choose_first.new.steps c.args.steps.now (most_looks l filters.All messages) c.choose_first.ensures.steps)

pub returns-in-Next-clause-steps : goal.returns-in-Next-clause-steps
returns-in-Next-clause-steps g c =
    let l = look_of c.args.asking.now in
    let messages = g.S.Search.rows_of c.args.messages.now in
    let p = c.args.position.now in
    let pick = c.args.asking.now.pick.now in
    steps_by l messages (filter_for pick.navigation (Some p) pick.table.now.grouped) (filter_for navigations.Next (Some p) pick.table.now.grouped) (ap (λ (n : Navigation). filter_for n (Some p) pick.table.now.grouped) c.in-Next.is)
    c.choose_next.new.steps c.args.steps.now c.choose_next.ensures.steps

pub returns-in-NextTransaction-clause-steps : goal.returns-in-NextTransaction-clause-steps
returns-in-NextTransaction-clause-steps g c =
    let l = look_of c.args.asking.now in
    let messages = g.S.Search.rows_of c.args.messages.now in
    let p = c.args.position.now in
    let pick = c.args.asking.now.pick.now in
    steps_by l messages (filter_for pick.navigation (Some p) pick.table.now.grouped) (filters.PastGroup p.group) (ap (λ (n : Navigation). filter_for n (Some p) pick.table.now.grouped) c.in-NextTransaction.is)
    c.choose_past_group.new.steps c.args.steps.now (twice c.choose_past_group.new.steps c.args.steps.now (most_looks l (filters.PastGroup p.group) messages) c.choose_past_group.ensures.steps)
