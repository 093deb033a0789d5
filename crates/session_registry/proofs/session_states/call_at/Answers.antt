use Rattle.std.proofs.Common.{◌≡◌, ◌+◌, ◌<◌, ◌^◌, Some, None, rules}
use Rattle.std.specs.Prelude.{slice_get}
use Rattle.session_registry.specs.Sessions.{after_call}
use Rattle.session_registry.proofs.States.{state_changes, no_state_changes}
use Rattle.session_registry.proofs.Results.{of_some}
use Rattle.session_registry.proofs.session_states.call_at.Goals as goal

pub returns-in-Some : goal.returns-in-Some
returns-in-Some c =
    let f = after_call c.args.positions c.args.home c.args.away in
    let there : slice_get c.args.states.now c.args.at ≡ Some c.in-Some.session.now = search (rules, c.get_mut.ensures.value, c.in-Some.is) in
    state_changes f c.args.states.now c.args.at c.in-Some.session.now c.call.new.session there c.call.ensures

pub returns-in_default : goal.returns-in_default
returns-in_default c =
    let f = after_call c.args.positions c.args.home c.args.away in
    let none : slice_get c.args.states.now c.args.at ≡ None = search (rules, c.get_mut.ensures.value, c.in_default.is) in
    no_state_changes f c.args.states.now c.args.at none

pub call-requires : goal.call-requires
call-requires c =
    let there : slice_get c.args.states.now c.args.at ≡ Some c.in-Some.session.now = search (rules, c.get_mut.ensures.value, c.in-Some.is) in
    of_some (λ t. t.next + 1 < 2 ^ 32) (slice_get c.args.states.now c.args.at) c.in-Some.session.now there c.requires
