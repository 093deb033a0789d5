use Rattle.std.proofs.Common.{Some, ap}
use Rattle.queue_rows.specs.declared.statement.Navigation.TheVariants as navigations
use Rattle.message_choice.specs.Asking.{look_of}
use Rattle.message_choice.specs.Offered.{most_looks}
use Rattle.message_choice.specs.Wanted.{filter_for}
use Rattle.message_choice.specs.declared.asking.Filter.TheVariants as filters
use Rattle.message_choice.proofs.Navigating.{steps_by}
use Rattle.message_choice.proofs.Walking.{twice}
use Rattle.message_choice.proofs.choosing.choose_next.Goals as goal

pub returns-then-grouped-clause-steps : goal.returns-then-grouped-clause-steps
returns-then-grouped-clause-steps g c =
    let l = look_of c.args.asking.now in
    let messages = g.S.Search.rows_of c.args.messages.now in
    let p = c.args.position.now in
    steps_by l messages (filter_for navigations.Next (Some p) c.args.asking.now.pick.now.table.now.grouped) (filters.InGroup p.group) (ap (filter_for navigations.Next (Some p)) c.if-grouped.true)
    c.choose_in_group.new.steps c.args.steps.now (twice c.choose_in_group.new.steps c.args.steps.now (most_looks l (filters.InGroup p.group) messages) c.choose_in_group.ensures.steps)

pub returns-else-grouped-clause-steps : goal.returns-else-grouped-clause-steps
returns-else-grouped-clause-steps g c =
    let l = look_of c.args.asking.now in
    let messages = g.S.Search.rows_of c.args.messages.now in
    let p = c.args.position.now in
    steps_by l messages (filter_for navigations.Next (Some p) c.args.asking.now.pick.now.table.now.grouped) filters.All (ap (filter_for navigations.Next (Some p)) c.if-grouped.false)
    c.choose_behind.new.steps c.args.steps.now c.choose_behind.ensures.steps
