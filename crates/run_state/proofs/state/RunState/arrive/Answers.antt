use Rattle.std.proofs.Common.{sym, ap, option_map, arith}
use Rattle.queue_rows.specs.declared.history.Step.TheVariants.{Arrive}
use Rattle.queue_rows.specs.World.{World, database_at}
use Rattle.run_state.specs.Sendings.{transit_of}
use Rattle.run_state.proofs.Putting.{run_of}
use Rattle.run_state.proofs.Calls.{next_sent, copies_few}
use Rattle.run_state.proofs.state.RunState.arrive.Goals as goal

pub take_ids-requires : goal.take_ids-requires
take_ids-requires c =
    let p = c.self.inside in
    let w = run_of p.home p.away p.scripts p.registry.sessions (option_map transit_of c.transit_after-self-inside.result) p.opening p.moment p.readings p.entries.items in
    let same = next_sent c.other_db.result w c.enter.new.self c.args.self.now c.args.actor c.sides-home.result.0 c.sides-home.result.1 (Arrive c.args.at c.args.arriving.outcome)
    c.in_ok-enter.ensures.ok (ap (λ (v : World). v.home) (sym c.self.view_is)) (ap (λ (v : World). v.away) (sym c.self.view_is)) in
    let here = ap (λ db. (database_at db c.args.self.now).next) c.other_db.ensures in
    let ids = c.ids_copied.ensures in
    let one = copies_few c.args.arriving.outcome in
    let few = c.requires in
    omega (arith, same, here, ids, one, few)
