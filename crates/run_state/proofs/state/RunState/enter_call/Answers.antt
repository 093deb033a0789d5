use Rattle.std.proofs.Common.{◌≡◌, ◌+◌, ◌<◌, ◌^◌, length, refl, ap, sym, subst, ◌∙◌}
use Rattle.std.specs.Prelude.{option_map, map, slice_get, All, IfSome, ◌++◌, ◌∷◌, []}
use Rattle.queue_rows.specs.World.{uncounted, World, entry_of}
use Rattle.queue_rows.specs.declared.history.Entry.{Entry}
use Rattle.queue_rows.specs.declared.history.Step.TheVariants.{Call}
use Rattle.queue_rows.specs.Sending.{home_of, away_of}
use Rattle.run_state.specs.CallEffects.{IsFreeOf, IsLaterThan, closed_call, entered_call, holding, mark_of, pend_of}
use Rattle.run_state.specs.Entries.{AreCounted, HasNoCalls}
use Rattle.run_state.specs.Sendings.{transit_of}
use Rattle.session_registry.specs.Sessions.{IsFreeIn, changed_at, after_call, left_by}
use Rattle.run_state.proofs.Calls.{early_held, later_sides}
use Rattle.session_registry.proofs.Changing.{length-changed}
use Rattle.run_state.proofs.Promises.{length-left, put_one, room_behind}
use Rattle.session_registry.proofs.Results.{all_pushed, on_err}
use Rattle.run_state.proofs.Putting.{run_of, no_calls, entered_held_by, counted_put}
use Rattle.run_state.proofs.state.RunState.enter_call.Goals as goal

pub put_call-requires-clause-later : goal.put_call-requires-clause-later
put_call-requires-clause-later c =
    let e = c.entry-entry.result in
    let pend = pend_of c.args.effect.holdings in
    let later : IsLaterThan pend c.sides-home.result.0 c.sides-home.result.1 =
    later_sides c.args.db pend c.args.effect.commit c.new.result c.sides-home.result.0 c.sides-home.result.1 c.new.ensures c.sides-home.ensures.home c.sides-home.ensures.away c.requires.later in
    subst (λ (x : Entry). IsLaterThan pend x.home x.away) (sym c.entry-entry.ensures) later

pub put_call-requires-clause-free : goal.put_call-requires-clause-free
put_call-requires-clause-free c =
    let mark = mark_of c.args.effect.holdings in
    let here : IfSome mark (λ m. IsFreeIn c.args.at m c.self.inside.registry.sessions) = subst (λ (w : World). IsFreeOf w c.args.at c.args.effect.holdings) (sym c.self.view_is) c.requires.free in
    subst (λ (x : Entry). IfSome mark (λ m. IsFreeIn x.actor m c.self.inside.registry.sessions)) (sym c.entry-entry.ensures) here

pub call-requires : goal.call-requires
call-requires c =
    let early : IfSome (slice_get c.self.inside.registry.sessions c.args.at) (λ s. s.next + 1 < 2 ^ 32) = subst (λ (w : World). IfSome (slice_get w.sessions c.args.at) (λ s. s.next + 1 < 2 ^ 32)) (sym c.self.view_is) c.requires.early in
    let at = ap (λ (x : Entry). changed_at x.actor (holding c.args.effect.holdings) c.self.inside.registry.sessions) c.entry-entry.ensures in
    early_held c.args.at c.args.effect.holdings c.self.inside.registry.sessions c.put_call.new.registry.sessions (c.in_ok-put_call.ensures.sessions ∙ at) early

pub invariant_of-self-2 : goal.invariant_of-self-2
invariant_of-self-2 c =
    let p = c.self.inside in
    let e = c.entry-entry.result in
    let before = c.reserve.new.self in
    let same = c.reserve.ensures.items in
    let put = c.put_call.new in
    let ss = c.leave.new.self.sessions in
    let many = ap length c.leave.ensures ∙ length-left c.args.db c.args.gone.now c.call.new.self.sessions
    ∙ ap length c.call.ensures ∙ length-changed (after_call c.args.effect.positions c.made-home.result c.made-away.result) put.registry.sessions c.args.at
    ∙ ap length c.in_ok-put_call.ensures.sessions ∙ length-changed (holding c.args.effect.holdings) p.registry.sessions e.actor in
    record {
      calls = all_pushed HasNoCalls c.put_call.result before.items put.entries.items e c.put_call.ensures.entries c.put_call.ensures.err_entries (subst (All HasNoCalls) (sym same) c.self.invariant.calls)
          (no_calls c.args.at c.args.self.now c.sides-home.result.0 c.sides-home.result.1 (Call c.args.number c.args.effect.reply) e c.entry-entry.ensures);
      counted = counted_put c.put_call.result e.home e.away e.moment p.home p.away put.home put.away before.items put.entries.items e
          c.put_call.ensures.home c.put_call.ensures.away c.put_call.ensures.entries c.put_call.ensures.err_home c.put_call.ensures.err_away c.put_call.ensures.err_entries (subst (AreCounted p.home.made p.away.made) (sym same) c.self.invariant.counted);
      room = room_behind put.home put.away ss c.len.result before put.entries (c.len.ensures ∙ sym many) c.in_ok-reserve.ensures.room
          (put_one c.put_call.result before.items put.entries.items e c.put_call.ensures.entries c.put_call.ensures.err_entries) c.put_call.ensures.capacity;
    }

pub invariant_of-self-in_err-put_call : goal.invariant_of-self-in_err-put_call
invariant_of-self-in_err-put_call c =
    let p = c.self.inside in
    let e = c.entry-entry.result in
    let before = c.reserve.new.self in
    let same = c.reserve.ensures.items in
    let put = c.put_call.new in
    let many = ap length c.in_err-put_call.ensures.err_sessions in
    record {
      calls = all_pushed HasNoCalls c.put_call.result before.items put.entries.items e c.put_call.ensures.entries c.put_call.ensures.err_entries (subst (All HasNoCalls) (sym same) c.self.invariant.calls)
          (no_calls c.args.at c.args.self.now c.sides-home.result.0 c.sides-home.result.1 (Call c.args.number c.args.effect.reply) e c.entry-entry.ensures);
      counted = counted_put c.put_call.result e.home e.away e.moment p.home p.away put.home put.away before.items put.entries.items e
          c.put_call.ensures.home c.put_call.ensures.away c.put_call.ensures.entries c.put_call.ensures.err_home c.put_call.ensures.err_away c.put_call.ensures.err_entries (subst (AreCounted p.home.made p.away.made) (sym same) c.self.invariant.counted);
      room = room_behind put.home put.away put.registry.sessions c.len.result before put.entries (c.len.ensures ∙ sym many) c.in_ok-reserve.ensures.room
          (put_one c.put_call.result before.items put.entries.items e c.put_call.ensures.entries c.put_call.ensures.err_entries) c.put_call.ensures.capacity;
    }

pub returns-in_err-reserve-clause-err : goal.returns-in_err-reserve-clause-err
returns-in_err-reserve-clause-err c =
    let p = c.self.inside in
    let w = run_of p.home p.away p.scripts p.registry.sessions (option_map transit_of p.transit) p.opening p.moment p.readings p.entries.items in
    on_err c.from_residual.result (ap (λ es. record w { entries = map uncounted es }) c.reserve.ensures.items ∙ c.self.view_is)

pub returns-clause-ok : goal.returns-clause-ok
returns-clause-ok c =
    let p = c.self.inside in
    let put = c.put_call.new in
    let w = run_of p.home p.away p.scripts p.registry.sessions (option_map transit_of p.transit) p.opening p.moment p.readings p.entries.items in
    let x = run_of put.home put.away p.scripts put.registry.sessions (option_map transit_of p.transit) p.opening p.moment p.readings put.entries.items in
    let e = c.entry-entry.result in
    let call = c.args.effect in
    let step = Call c.args.number call.reply in
    let home = c.sides-home.result.0 in
    let away = c.sides-home.result.1 in
    let is = c.entry-entry.ensures ∙ ap (λ (v : World). entry_of c.args.at v home away step) (sym c.self.view_is) in
    let did = c.in_ok-put_call.ensures in
    let into : x ≡ entered_call c.args.at w home away step call.holdings = entered_held_by w c.args.at home away step call.holdings e put.home put.away put.registry.sessions p.entries.items put.entries.items refl is did.home did.away did.sessions
    (did.entries ∙ ap (λ es. es ++ e ∷ []) c.reserve.ensures.items) in
    let at_h = c.sides-home.ensures.home ∙ ap (home_of c.args.db call.commit) c.new.ensures in
    let at_a = c.sides-home.ensures.away ∙ ap (away_of c.args.db call.commit) c.new.ensures in
    let entered = into ∙ ap (λ (v : World). entered_call c.args.at v home away step call.holdings) c.self.view_is
    ∙ ap (λ cs. entered_call c.args.at c.args.self.now cs away step call.holdings) at_h
    ∙ ap (λ cs. entered_call c.args.at c.args.self.now (home_of c.args.db call.commit []) cs step call.holdings) at_a in
    ap (λ ss. record x { sessions = ss }) (c.leave.ensures ∙ ap (left_by c.args.db c.args.gone.now) (c.call.ensures
    ∙ ap (λ n. changed_at c.args.at (after_call call.positions n c.made-away.result) put.registry.sessions) c.made-home.ensures
    ∙ ap (λ n. changed_at c.args.at (after_call call.positions put.home.made n) put.registry.sessions) c.made-away.ensures))
    ∙ ap (λ (v : World). closed_call c.args.at v c.args.db call.positions c.args.gone.now) entered
