use Rattle.std.proofs.Common.{refl, sym, subst, ap, ◌∙◌}
use Rattle.std.specs.Prelude.{option_map, map, All, ◌++◌, ◌∷◌, []}
use Rattle.queue_rows.specs.World.{uncounted, World, entry_of, stepped}
use Rattle.run_state.specs.Entries.{AreCounted, HasNoCalls}
use Rattle.run_state.specs.Sendings.{transit_of}
use Rattle.run_state.proofs.Promises.{put_one, room_behind}
use Rattle.session_registry.proofs.Results.{all_pushed}
use Rattle.run_state.proofs.Putting.{run_of, entered_by, no_calls, counted_put, ok_three, err_three}
use Rattle.run_state.proofs.state.RunState.enter.Goals as goal

pub invariant_of-self-2 : goal.invariant_of-self-2
invariant_of-self-2 c =
    let p = c.self.inside in
    let e = c.entry-entry.result in
    let before = c.reserve.new.self in
    let same = c.reserve.ensures.items in
    record {
      calls = all_pushed HasNoCalls c.put.result before.items c.put.new.entries.items e c.put.ensures.entries c.put.ensures.err_entries (subst (All HasNoCalls) (sym same) c.self.invariant.calls)
          (no_calls c.args.actor c.args.self.now c.args.home c.args.away c.args.step e c.entry-entry.ensures);
      counted = counted_put c.put.result e.home e.away e.moment p.home p.away c.put.new.home c.put.new.away before.items c.put.new.entries.items e
          c.put.ensures.home c.put.ensures.away c.put.ensures.entries c.put.ensures.err_home c.put.ensures.err_away c.put.ensures.err_entries (subst (AreCounted p.home.made p.away.made) (sym same) c.self.invariant.counted);
      room = room_behind c.put.new.home c.put.new.away p.registry.sessions c.len.result before c.put.new.entries c.len.ensures c.in_ok-reserve.ensures.room
          (put_one c.put.result before.items c.put.new.entries.items e c.put.ensures.entries c.put.ensures.err_entries) c.put.ensures.capacity;
    }

pub returns-clause-ok : goal.returns-clause-ok
returns-clause-ok c =
    let p = c.self.inside in
    let w = run_of p.home p.away p.scripts p.registry.sessions (option_map transit_of p.transit) p.opening p.moment p.readings p.entries.items in
    let e = c.entry-entry.result in
    let is = c.entry-entry.ensures ∙ ap (λ (v : World). entry_of c.args.actor v c.args.home c.args.away c.args.step) (sym c.self.view_is) in
    ok_three c.put.result c.put.ensures.home c.put.ensures.away c.put.ensures.entries (λ h a added.
    entered_by w c.args.actor c.args.home c.args.away c.args.step e c.put.new.home c.put.new.away p.entries.items c.put.new.entries.items refl is h a (added ∙ ap (λ es. es ++ e ∷ []) c.reserve.ensures.items)
    ∙ ap (λ (v : World). stepped c.args.actor v c.args.home c.args.away c.args.step) c.self.view_is)

pub returns-clause-err : goal.returns-clause-err
returns-clause-err c =
    let p = c.self.inside in
    let w = run_of p.home p.away p.scripts p.registry.sessions (option_map transit_of p.transit) p.opening p.moment p.readings p.entries.items in
    err_three c.put.result c.put.ensures.err_home c.put.ensures.err_away c.put.ensures.err_entries (λ h a e.
    ap (λ d. record w { home = d; away = c.put.new.away; entries = map uncounted c.put.new.entries.items }) h
    ∙ ap (λ d. record w { away = d; entries = map uncounted c.put.new.entries.items }) a
    ∙ ap (λ es. record w { entries = map uncounted es }) (e ∙ c.reserve.ensures.items)
    ∙ c.self.view_is)
