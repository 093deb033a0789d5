use Rattle.std.proofs.Common.{refl, arith, ◌≡◌, Some, true, false, sym, ap, ◌∙◌, option_map, is_some, rules}
use Rattle.std.specs.Prelude.{option_copied, slice_get}
use Rattle.queue_rows.specs.Turns.{parked}
use Rattle.queue_rows.specs.World.{World}
use Rattle.run_state.specs.Promises.{replies_owed}
use Rattle.run_state.specs.Sendings.{transit_of}
use Rattle.session_registry.specs.Sessions.{session_of, unmarked, changed_at, after_park}
use Rattle.session_registry.proofs.Results.{some_of}
use Rattle.run_state.proofs.Promises.{owed_same}
use Rattle.run_state.proofs.Putting.{run_of}
use Rattle.run_state.proofs.Calls.{session_there, not_absent, parked_is, waits_still}
use Rattle.run_state.proofs.state.RunState.park.Goals as goal

pub returns-then-is_some-clause-ok : goal.returns-then-is_some-clause-ok
returns-then-is_some-clause-ok c =
    let p = c.self.inside in
    let now = c.args.self.now in
    let is : option_map session_of (Some c.in-Some.session.now) ≡ option_map unmarked (slice_get p.registry.sessions c.args.at) = sym (ap (λ o. option_map session_of (option_copied o)) c.in-Some.is) ∙ c.get.ensures in
    let s = session_there (slice_get p.registry.sessions c.args.at) c.in-Some.session.now is in
    let there : slice_get now.sessions c.args.at ≡ Some s.0 = ap (λ v. slice_get v.sessions c.args.at) (sym c.self.view_is) ∙ s.1 in
    let waits : is_some c.in-Some.session.now.parked ≡ true = search rules in
    some_of (λ t. now ≡ parked c.args.at t c.args.since now) (slice_get now.sessions c.args.at) s.0 there (waits_still c.args.at c.args.since s.0 now (ap (λ t. is_some t.parked) (sym s.2) ∙ waits))

pub returns-clause-ok : goal.returns-clause-ok
returns-clause-ok c =
    let p = c.self.inside in
    let q = c.self-2.inside in
    let now = c.args.self.now in
    let is : option_map session_of (Some c.in-Some.session.now) ≡ option_map unmarked (slice_get p.registry.sessions c.args.at) = sym (ap (λ o. option_map session_of (option_copied o)) c.in-Some.is) ∙ c.get.ensures in
    let s = session_there (slice_get p.registry.sessions c.args.at) c.in-Some.session.now is in
    let there : slice_get now.sessions c.args.at ≡ Some s.0 = ap (λ v. slice_get v.sessions c.args.at) (sym c.self.view_is) ∙ s.1 in
    let v = run_of q.home q.away q.scripts q.registry.sessions (option_map transit_of q.transit) q.opening q.moment q.readings q.entries.items in
    let none : is_some c.in-Some.session.now.parked ≡ false = search rules in
    let number = ap (λ t. t.next) s.2 in
    let changed = ap (λ ss. record v { sessions = ss }) c.park.ensures ∙ ap (λ (x : World). record x { sessions = changed_at c.args.at (after_park c.args.since) x.sessions }) (c.self-2.view_is ∙ c.in_ok-note.ensures.ok) in
    some_of (λ t. record v { sessions = c.park.new.self.sessions } ≡ parked c.args.at t c.args.since now) (slice_get now.sessions c.args.at) s.0 there
    (changed ∙ parked_is c.args.at c.args.since c.in-Some.session.now.next s.0 now there (ap (λ t. is_some t.parked) (sym s.2) ∙ none) number)

pub invariant_of-self : goal.invariant_of-self
invariant_of-self c =
    let same = ap replies_owed c.park.ensures ∙ owed_same (after_park c.args.since) c.self-2.inside.registry.sessions c.args.at (λ s. refl) in
    let room = c.self-2.invariant.room in
    record {
      calls = c.self-2.invariant.calls;
      counted = c.self-2.invariant.counted;
      room = omega (arith, same, room);
    }

pub returns-in_err-note-clause-absent : goal.returns-in_err-note-clause-absent
returns-in_err-note-clause-absent c absent =
    let is : option_map session_of (Some c.in-Some.session.now) ≡ option_map unmarked (slice_get c.self.inside.registry.sessions c.args.at) = sym (ap (λ o. option_map session_of (option_copied o)) c.in-Some.is) ∙ c.get.ensures in
    not_absent _ _ c.args.at c.in-Some.session.now c.self.view_is is absent

pub returns-clause-absent : goal.returns-clause-absent
returns-clause-absent c absent =
    let is : option_map session_of (Some c.in-Some.session.now) ≡ option_map unmarked (slice_get c.self.inside.registry.sessions c.args.at) = sym (ap (λ o. option_map session_of (option_copied o)) c.in-Some.is) ∙ c.get.ensures in
    not_absent _ _ c.args.at c.in-Some.session.now c.self.view_is is absent
