use Rattle.std.proofs.Common.{◌≡◌, [], Some, refl, sym, subst, ap, ◌∙◌, length, arith}
use Rattle.std.specs.Prelude.{All, IsSome, map, option_copied, option_map, slice_get}
use Rattle.std.proofs.lemmas.List.{length_push}
use Rattle.std.proofs.lemmas.List.Elements.{All-push}
use Rattle.queue_rows.specs.World.{uncounted, World, entry_of, stepped}
use Rattle.queue_rows.specs.declared.history.Step.TheVariants.{Told}
use Rattle.run_state.specs.Entries.{HasNoCalls}
use Rattle.run_state.specs.Promises.{replies_owed}
use Rattle.run_state.specs.Sendings.{transit_of}
use Rattle.session_registry.specs.Sessions.{changed_at, after_reply, session_of, unmarked}
use Rattle.session_registry.proofs.Results.{if_some, of_some}
use Rattle.run_state.proofs.Promises.{owed_told}
use Rattle.run_state.proofs.Putting.{run_of, counted_more, no_calls, noted_by}
use Rattle.run_state.proofs.Calls.{session_there, sessions-flushed, told_is, not_absent}
use Rattle.run_state.proofs.state.RunState.tell.Goals as goal

pub push-requires : goal.push-requires
push-requires c =
    let now = c.args.self.now in
    let is : option_map session_of (Some c.in-Some.field-0.now) ≡ option_map unmarked (slice_get c.self.inside.registry.sessions c.args.at) = sym (ap (λ o. option_map session_of (option_copied o)) c.in-Some.is) ∙ c.get.ensures in
    let s = session_there (slice_get c.self.inside.registry.sessions c.args.at) c.in-Some.field-0.now is in
    let there : slice_get now.sessions c.args.at ≡ Some s.0 = ap (λ (v : World). slice_get v.sessions c.args.at) (sym c.self.view_is) ∙ s.1 in
    let owed = of_some (λ t. IsSome t.untold) (slice_get now.sessions c.args.at) s.0 there c.requires in
    let behind = ap (λ (v : World). slice_get v.sessions c.args.at) (c.self-2.view_is ∙ c.flush.ensures) ∙ ap (λ ss. slice_get ss c.args.at) (sessions-flushed c.args.at now) ∙ there in
    let one = owed_told c.self-2.inside.registry.sessions c.args.at s.0 behind owed in
    let room = c.self-2.invariant.room in
    omega (arith, one, room)

pub invariant_of-self : goal.invariant_of-self
invariant_of-self c =
    let now = c.args.self.now in
    let is : option_map session_of (Some c.in-Some.field-0.now) ≡ option_map unmarked (slice_get c.self.inside.registry.sessions c.args.at) = sym (ap (λ o. option_map session_of (option_copied o)) c.in-Some.is) ∙ c.get.ensures in
    let s = session_there (slice_get c.self.inside.registry.sessions c.args.at) c.in-Some.field-0.now is in
    let there : slice_get now.sessions c.args.at ≡ Some s.0 = ap (λ (v : World). slice_get v.sessions c.args.at) (sym c.self.view_is) ∙ s.1 in
    let owed = of_some (λ t. IsSome t.untold) (slice_get now.sessions c.args.at) s.0 there c.requires in
    let behind = ap (λ (v : World). slice_get v.sessions c.args.at) (c.self-2.view_is ∙ c.flush.ensures) ∙ ap (λ ss. slice_get ss c.args.at) (sessions-flushed c.args.at now) ∙ there in
    let one = owed_told c.self-2.inside.registry.sessions c.args.at s.0 behind owed in
    let room = c.self-2.invariant.room in
    let q = c.self-2.inside in
    let e = c.quiet_entry-entry.result in
    let items = c.push.ensures.items in
    let more = ap length items ∙ length_push q.entries.items e in
    let told = ap replies_owed c.tell.ensures in
    let most = c.push.ensures.capacity in
    record {
      calls = subst (All HasNoCalls) (sym items) (All-push HasNoCalls q.entries.items e c.self-2.invariant.calls (no_calls c.args.at c.flush.new.self [] [] (Told c.args.number) e c.quiet_entry-entry.ensures));
      counted = counted_more q.home.made q.away.made q.entries.items c.push.new.self.items e items c.self-2.invariant.counted;
      room = omega (arith, one, room, more, told, most);
    }

pub returns-clause-told : goal.returns-clause-told
returns-clause-told c =
    let q = c.self-2.inside in
    let u = run_of q.home q.away q.scripts q.registry.sessions (option_map transit_of q.transit) q.opening q.moment q.readings q.entries.items in
    let at = c.args.at in
    let e = c.quiet_entry-entry.result in
    let items = c.push.new.self.items in
    let is = c.quiet_entry-entry.ensures ∙ ap (λ (v : World). entry_of at v [] [] (Told c.args.number)) (sym c.self-2.view_is) in
    let noted = noted_by u at (Told c.args.number) e q.entries.items items refl is c.push.ensures.items in
    let y = record u { entries = map uncounted items } in
    let changed = ap (λ ss. record y { sessions = ss }) c.tell.ensures
    ∙ ap (λ (v : World). record v { sessions = changed_at at after_reply v.sessions }) (noted ∙ ap (λ (v : World). stepped at v [] [] (Told c.args.number)) (c.self-2.view_is ∙ c.flush.ensures)) in
    if_some _ (λ s there. changed ∙ told_is at c.args.number s c.args.self.now there)

pub returns-clause-absent : goal.returns-clause-absent
returns-clause-absent c absent =
    let is : option_map session_of (Some c.in-Some.field-0.now) ≡ option_map unmarked (slice_get c.self.inside.registry.sessions c.args.at) = sym (ap (λ o. option_map session_of (option_copied o)) c.in-Some.is) ∙ c.get.ensures in
    not_absent _ _ c.args.at c.in-Some.field-0.now c.self.view_is is absent
