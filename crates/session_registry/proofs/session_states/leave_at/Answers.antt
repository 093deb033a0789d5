use Rattle.std.proofs.Common.{◌≡◌, Some, None, rules}
use Rattle.std.specs.Prelude.{slice_get}
use Rattle.queue_rows.specs.Session.{not_standing_in}
use Rattle.session_registry.proofs.States.{state_changes, no_state_changes}
use Rattle.session_registry.proofs.session_states.leave_at.Goals as goal

pub returns-in-Some : goal.returns-in-Some
returns-in-Some c =
    let f = not_standing_in c.args.db c.args.queue.now in
    let there : slice_get c.args.states.now c.args.at ≡ Some c.in-Some.session.now = search (rules, c.get_mut.ensures.value, c.in-Some.is) in
    state_changes f c.args.states.now c.args.at c.in-Some.session.now c.leave.new.session there c.leave.ensures

pub returns-in_default : goal.returns-in_default
returns-in_default c =
    let f = not_standing_in c.args.db c.args.queue.now in
    let none : slice_get c.args.states.now c.args.at ≡ None = search (rules, c.get_mut.ensures.value, c.in_default.is) in
    no_state_changes f c.args.states.now c.args.at none
