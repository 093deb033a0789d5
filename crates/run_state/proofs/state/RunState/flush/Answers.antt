use Rattle.std.proofs.Common.{◌≡◌, [], true, false, refl, sym, ap, ◌∙◌, option_map, map}
use Rattle.queue_rows.specs.World.{uncounted, World, entry_of, stepped}
use Rattle.queue_rows.specs.declared.history.Step.TheVariants.{Flush}
use Rattle.queue_rows.specs.Turns.{all_durable, is_durable, made_durable}
use Rattle.run_state.specs.Sendings.{transit_of}
use Rattle.run_state.proofs.Calls.{flush_new, flush_still}
use Rattle.run_state.proofs.Putting.{run_of, noted_by}
use Rattle.run_state.proofs.state.RunState.flush.Goals as goal

pub returns-then-is_durable : goal.returns-then-is_durable
returns-then-is_durable c =
    let durable : is_durable c.args.self.now ≡ true = sym c.is_durable.ensures ∙ c.if-is_durable.true in
    flush_still c.args.actor c.args.self.now durable

pub returns : goal.returns
returns c =
    let p = c.self.inside in
    let w = run_of p.home p.away p.scripts p.registry.sessions (option_map transit_of p.transit) p.opening p.moment p.readings p.entries.items in
    let i = c.args.actor in
    let e = c.quiet_entry-entry.result in
    let items = c.push.new.self.items in
    let late : is_durable c.args.self.now ≡ false = sym c.is_durable.ensures ∙ c.if-is_durable.false in
    let is = c.quiet_entry-entry.ensures ∙ ap (λ (v : World). entry_of i v [] [] Flush) (sym c.self.view_is) in
    let noted = noted_by w i Flush e p.entries.items items refl is c.push.ensures.items in
    ap (λ d. record w { home = d; away = c.make_durable-2.new.self; entries = map uncounted items }) c.make_durable.ensures
    ∙ ap (λ d. record w { home = made_durable p.home; away = d; entries = map uncounted items }) c.make_durable-2.ensures
    ∙ ap all_durable noted
    ∙ ap (λ (v : World). all_durable (stepped i v [] [] Flush)) c.self.view_is
    ∙ flush_new i c.args.self.now late
