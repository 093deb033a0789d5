use Rattle.std.proofs.Common.{◌≡◌, ◌+◌, ◌<◌, ◌^◌, Some, sym, ap, ◌∙◌, option_map, arith}
use Rattle.std.specs.Prelude.{option_copied, slice_get}
use Rattle.queue_rows.specs.World.{database_at}
use Rattle.run_state.specs.CallEffects.{called_with}
use Rattle.run_state.specs.Sendings.{transit_of}
use Rattle.session_registry.specs.Sessions.{session_of, unmarked}
use Rattle.session_registry.proofs.Results.{some_of}
use Rattle.run_state.proofs.Putting.{run_of}
use Rattle.run_state.proofs.Calls.{caller_of, next_entered, call_is, not_absent}
use Rattle.run_state.proofs.state.RunState.call.Goals as goal

pub enter_call-requires-clause-early : goal.enter_call-requires-clause-early
enter_call-requires-clause-early c =
    let p = c.self.inside in
    let w = run_of p.home p.away p.scripts p.registry.sessions (option_map transit_of p.transit) p.opening p.moment p.readings p.entries.items in
    let is : option_map session_of (Some c.in-Some.session.now) ≡ option_map unmarked (slice_get p.registry.sessions c.args.at) = sym (ap (λ o. option_map session_of (option_copied o)) c.in-Some.is) ∙ c.get.ensures in
    let s = caller_of w c.args.self.now c.args.at c.in-Some.session.now c.args.effect c.self.view_is is c.requires in
    some_of (λ t. t.next + 1 < 2 ^ 32) (slice_get c.args.self.now.sessions c.args.at) s.0 s.1 s.3.early

pub enter_call-requires-clause-later : goal.enter_call-requires-clause-later
enter_call-requires-clause-later c =
    let p = c.self.inside in
    let w = run_of p.home p.away p.scripts p.registry.sessions (option_map transit_of p.transit) p.opening p.moment p.readings p.entries.items in
    let is : option_map session_of (Some c.in-Some.session.now) ≡ option_map unmarked (slice_get p.registry.sessions c.args.at) = sym (ap (λ o. option_map session_of (option_copied o)) c.in-Some.is) ∙ c.get.ensures in
    let s = caller_of w c.args.self.now c.args.at c.in-Some.session.now c.args.effect c.self.view_is is c.requires in
    s.3.later

pub enter_call-requires-clause-free : goal.enter_call-requires-clause-free
enter_call-requires-clause-free c =
    let p = c.self.inside in
    let w = run_of p.home p.away p.scripts p.registry.sessions (option_map transit_of p.transit) p.opening p.moment p.readings p.entries.items in
    let is : option_map session_of (Some c.in-Some.session.now) ≡ option_map unmarked (slice_get p.registry.sessions c.args.at) = sym (ap (λ o. option_map session_of (option_copied o)) c.in-Some.is) ∙ c.get.ensures in
    let s = caller_of w c.args.self.now c.args.at c.in-Some.session.now c.args.effect c.self.view_is is c.requires in
    s.3.free

pub take_ids-requires : goal.take_ids-requires
take_ids-requires c =
    let p = c.self.inside in
    let w = run_of p.home p.away p.scripts p.registry.sessions (option_map transit_of p.transit) p.opening p.moment p.readings p.entries.items in
    let is : option_map session_of (Some c.in-Some.session.now) ≡ option_map unmarked (slice_get p.registry.sessions c.args.at) = sym (ap (λ o. option_map session_of (option_copied o)) c.in-Some.is) ∙ c.get.ensures in
    let s = caller_of w c.args.self.now c.args.at c.in-Some.session.now c.args.effect c.self.view_is is c.requires in
    let db = c.in-Some.session.now.at in
    let at : s.0.at ≡ db = ap (λ t. t.at) (sym s.2) in
    let same = ap (λ v. (database_at db v).next) c.in_ok-enter_call.ensures.ok ∙ next_entered db db c.args.at (c.in-Some.session.now.next + 1) c.args.self.now c.args.effect c.in_ok-gone.gone in
    let here = ap (λ d. (database_at d c.args.self.now).next) at in
    let ids = c.ids_taken-ids.ensures in
    let few = s.3.ids in
    omega (arith, same, here, ids, few)

pub returns-clause-ok : goal.returns-clause-ok
returns-clause-ok c =
    let p = c.self.inside in
    let w = run_of p.home p.away p.scripts p.registry.sessions (option_map transit_of p.transit) p.opening p.moment p.readings p.entries.items in
    let is : option_map session_of (Some c.in-Some.session.now) ≡ option_map unmarked (slice_get p.registry.sessions c.args.at) = sym (ap (λ o. option_map session_of (option_copied o)) c.in-Some.is) ∙ c.get.ensures in
    let s = caller_of w c.args.self.now c.args.at c.in-Some.session.now c.args.effect c.self.view_is is c.requires in
    let db = c.in-Some.session.now.at in
    let at : s.0.at ≡ db = ap (λ t. t.at) (sym s.2) in
    let number : c.in-Some.session.now.next ≡ s.0.next = ap (λ t. t.next) s.2 in
    some_of (λ t. c.take_ids.new.self ≡ called_with c.args.at c.args.effect c.args.self.now t) (slice_get c.args.self.now.sessions c.args.at) s.0 s.1
    (call_is db c.args.at c.ids_taken-ids.result c.in-Some.session.now.next c.args.self.now c.enter_call.new.self c.take_ids.new.self s.0 c.args.effect c.in_ok-gone.gone
    s.1 at number c.ids_taken-ids.ensures c.in_ok-gone.ensures c.in_ok-enter_call.ensures.ok c.take_ids.ensures)

pub returns-in_err-gone-clause-absent : goal.returns-in_err-gone-clause-absent
returns-in_err-gone-clause-absent c absent =
    let is : option_map session_of (Some c.in-Some.session.now) ≡ option_map unmarked (slice_get c.self.inside.registry.sessions c.args.at) = sym (ap (λ o. option_map session_of (option_copied o)) c.in-Some.is) ∙ c.get.ensures in
    not_absent _ _ c.args.at c.in-Some.session.now c.self.view_is is absent

pub returns-in_err-enter_call-clause-absent : goal.returns-in_err-enter_call-clause-absent
returns-in_err-enter_call-clause-absent c absent =
    let is : option_map session_of (Some c.in-Some.session.now) ≡ option_map unmarked (slice_get c.self.inside.registry.sessions c.args.at) = sym (ap (λ o. option_map session_of (option_copied o)) c.in-Some.is) ∙ c.get.ensures in
    not_absent _ _ c.args.at c.in-Some.session.now c.self.view_is is absent

pub returns-clause-absent : goal.returns-clause-absent
returns-clause-absent c absent =
    let is : option_map session_of (Some c.in-Some.session.now) ≡ option_map unmarked (slice_get c.self.inside.registry.sessions c.args.at) = sym (ap (λ o. option_map session_of (option_copied o)) c.in-Some.is) ∙ c.get.ensures in
    not_absent _ _ c.args.at c.in-Some.session.now c.self.view_is is absent
