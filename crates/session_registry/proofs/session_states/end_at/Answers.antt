use Rattle.std.proofs.Common.{◌≡◌, [], false, Some, None, rules}
use Rattle.std.specs.Prelude.{slice_get}
use Rattle.queue_rows.specs.Session.{Session}
use Rattle.session_registry.proofs.States.{state_changes, no_state_changes}
use Rattle.session_registry.proofs.session_states.end_at.Goals as goal

pub returns-in-Some : goal.returns-in-Some
returns-in-Some c =
    let f = λ (s : Session). record s { pending = []; live = false } in
    let there : slice_get c.args.states.now c.args.at ≡ Some c.in-Some.session.now = search (rules, c.get_mut.ensures.value, c.in-Some.is) in
    state_changes f c.args.states.now c.args.at c.in-Some.session.now c.end.new.session there c.end.ensures

pub returns-in_default : goal.returns-in_default
returns-in_default c =
    let f = λ (s : Session). record s { pending = []; live = false } in
    let none : slice_get c.args.states.now c.args.at ≡ None = search (rules, c.get_mut.ensures.value, c.in_default.is) in
    no_state_changes f c.args.states.now c.args.at none
