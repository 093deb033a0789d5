use Rattle.std.proofs.Common.{◌≡◌, Some, None, rules}
use Rattle.std.specs.Prelude.{slice_get}
use Rattle.session_registry.specs.Sessions.{with_pending}
use Rattle.session_registry.proofs.Results.{ok_from, err_from}
use Rattle.session_registry.proofs.States.{set_same, state_changes, no_state_changes}
use Rattle.session_registry.proofs.session_states.pend_at.Goals as goal

pub returns-in-Some-clause-ok : goal.returns-in-Some-clause-ok
returns-in-Some-clause-ok c =
    let f = with_pending c.args.pending in
    let there : slice_get c.args.states.now c.args.at ≡ Some c.in-Some.session.now = search (rules, c.get_mut.ensures.value, c.in-Some.is) in
    ok_from c.pend.result c.pend.ensures.ok (λ is.
    state_changes f c.args.states.now c.args.at c.in-Some.session.now c.pend.new.session there is)

pub returns-in-Some-clause-err : goal.returns-in-Some-clause-err
returns-in-Some-clause-err c =
    let there : slice_get c.args.states.now c.args.at ≡ Some c.in-Some.session.now = search (rules, c.get_mut.ensures.value, c.in-Some.is) in
    err_from c.pend.result c.pend.ensures.err (set_same c.args.states.now c.args.at c.in-Some.session.now c.pend.new.session there)

pub returns-in-None-clause-ok : goal.returns-in-None-clause-ok
returns-in-None-clause-ok c =
    let f = with_pending c.args.pending in
    let none : slice_get c.args.states.now c.args.at ≡ None = search (rules, c.get_mut.ensures.value, c.in-None.is) in
    no_state_changes f c.args.states.now c.args.at none
