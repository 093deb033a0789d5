use Rattle.std.proofs.Common.{◌≡◌, Some, refl, sym, arith, ap, ◌∙◌}
use Rattle.std.specs.Prelude.{option_copied, option_map, slice_get}
use Rattle.queue_rows.specs.World.{World}
use Rattle.run_state.specs.Promises.{replies_owed}
use Rattle.run_state.specs.Sendings.{transit_of}
use Rattle.session_registry.specs.Sessions.{session_of, unmarked, changed_at, after_end}
use Rattle.session_registry.proofs.Results.{if_some}
use Rattle.run_state.proofs.Promises.{owed_same}
use Rattle.run_state.proofs.Putting.{run_of}
use Rattle.run_state.proofs.Calls.{ended_is, not_absent}
use Rattle.run_state.proofs.state.RunState.end.Goals as goal

pub returns-clause-ok : goal.returns-clause-ok
returns-clause-ok c =
    let q = c.self-2.inside in
    let w = run_of q.home q.away q.scripts q.registry.sessions (option_map transit_of q.transit) q.opening q.moment q.readings q.entries.items in
    let changed = ap (λ ss. record w { sessions = ss }) c.end.ensures ∙ ap (λ (v : World). record v { sessions = changed_at c.args.at after_end v.sessions }) (c.self-2.view_is ∙ c.in_ok-note.ensures.ok) in
    if_some _ (λ s there. changed ∙ ended_is c.args.at s c.args.self.now there)

pub invariant_of-self : goal.invariant_of-self
invariant_of-self c =
    let same = ap replies_owed c.end.ensures ∙ owed_same after_end c.self-2.inside.registry.sessions c.args.at (λ s. refl) in
    let room = c.self-2.invariant.room in
    record {
      calls = c.self-2.invariant.calls;
      counted = c.self-2.invariant.counted;
      room = omega (arith, same, room);
    }

pub returns-in_err-note-clause-absent : goal.returns-in_err-note-clause-absent
returns-in_err-note-clause-absent c absent =
    let is : option_map session_of (Some c.in-Some.field-0.now) ≡ option_map unmarked (slice_get c.self.inside.registry.sessions c.args.at) = sym (ap (λ o. option_map session_of (option_copied o)) c.in-Some.is) ∙ c.get.ensures in
    not_absent _ _ c.args.at c.in-Some.field-0.now c.self.view_is is absent

pub returns-clause-absent : goal.returns-clause-absent
returns-clause-absent c absent =
    let is : option_map session_of (Some c.in-Some.field-0.now) ≡ option_map unmarked (slice_get c.self.inside.registry.sessions c.args.at) = sym (ap (λ o. option_map session_of (option_copied o)) c.in-Some.is) ∙ c.get.ensures in
    not_absent _ _ c.args.at c.in-Some.field-0.now c.self.view_is is absent
