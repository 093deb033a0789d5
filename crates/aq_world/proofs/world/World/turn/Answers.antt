use Rattle.std.proofs.Common.{◌≡◌, ◌<◌, ◌^◌, arith, true, sym, ap, subst, ◌∙◌}
use Rattle.std.specs.Prelude.{slice_get}
use Rattle.durable_state.specs.Brief.{AreBrief}
use Rattle.durable_state.specs.Going.{Goes}
use Rattle.aq_world.specs.Clocked.{Grows, IsTurn}
use Rattle.aq_world.specs.Going.{Stops}
use Rattle.aq_world.specs.Turning.{IsActor, is_owed, reads_clock, turn_end}
use Rattle.aq_world.proofs.OfRun.{turn_of_run}
use Rattle.aq_world.proofs.Running.{running_few, running_sound, turn_leaves, turn_told, turned_world, turned_end, turned_broken, turn_halted, turn_fine, turn_stops, if_turned, reads_if, takes_reading, told_count}
use Rattle.aq_world.specs.declared.turn_end.TurnEnd.TheVariants.{Halted}
use Rattle.aq_world.proofs.world.World.turn.Goals as goal

pub turn-requires-clause-sound : goal.turn-requires-clause-sound
turn-requires-clause-sound g c = running_sound c.self.invariant.readings c.self.inside.state.world c.self.invariant.running

pub invariant_of-self : goal.invariant_of-self
invariant_of-self g c =
    let i = c.self.invariant in
    let w = c.self.inside.state.world in
    turn_leaves i.readings w i.running c.read_if-reading.result g.C.Clock.given c.self.inside.clock c.read_if-reading.new.clock i.told c.turn.new.state.world c.args.actor c.reads_clock-is_read.result c.turn.result
    (c.reads_clock-is_read.ensures ∙ ap (reads_clock c.args.actor) c.run.ensures) c.read_if-reading.ensures.read c.read_if-reading.ensures.unread
    (subst (λ v. IsActor v.held.world c.args.actor) (sym c.self.view_is) c.requires.actor) c.turn.ensures.ok c.turn.ensures.err

pub returns-clause-turn : goal.returns-clause-turn
returns-clause-turn g c =
    let i = c.self.invariant in
    let w = c.self.inside.state.world in
    let reading = c.read_if-reading.result in
    subst (λ v. IsTurn g.C.Clock.given g.C.Clock.plan c.args.actor c.end_of.result v (record { held = c.turn.new.state; clock = c.read_if-reading.new.clock })) c.self.view_is
    (record {
      reading = reading;
      reads = reads_if g.C.Clock.given g.C.Clock.plan (reads_clock c.args.actor w) c.reads_clock-is_read.result w.readings reading c.self.inside.clock c.read_if-reading.new.clock (c.reads_clock-is_read.ensures ∙ ap (reads_clock c.args.actor) c.run.ensures)
          (λ yes. takes_reading g.C.Clock.given g.C.Clock.plan g.met.C.Clock.as_planned w.readings reading c.self.inside.clock c.read_if-reading.new.clock
          (let few = subst (λ v. v.held.world.readings < 2 ^ 63) (sym c.self.view_is) c.requires.readings in omega (arith, few)) (told_count i.readings w (g.C.Clock.given c.self.inside.clock) i.running i.told)
          (c.read_if-reading.ensures.read yes) (c.read_if-reading.ensures.tells yes) (c.read_if-reading.ensures.planned yes))
          c.read_if-reading.ensures.unread;
      world = λ whole. turned_world c.turn.result c.end_of.result c.end_of.ensures c.turn.ensures.ok whole;
      end_is = λ whole. turned_end c.turn.result c.end_of.result (turn_end reading c.args.actor w) c.end_of.ensures c.turn.ensures.end whole;
      why = λ broken. (turned_broken c.turn.result c.end_of.result reading c.args.actor w c.end_of.ensures c.turn.ensures.end c.turn.ensures.err broken).0;
      broken = λ broken. (turned_broken c.turn.result c.end_of.result reading c.args.actor w c.end_of.ensures c.turn.ensures.end c.turn.ensures.err broken).1;
      front = λ broken. (turned_broken c.turn.result c.end_of.result reading c.args.actor w c.end_of.ensures c.turn.ensures.end c.turn.ensures.front broken).1;
    })

pub returns-clause-disks : goal.returns-clause-disks
returns-clause-disks g c = subst (λ v. Goes g.D.Disk.seen g.D.Disk.is_image g.D.Disk.calls g.D.Disk.faults v.held c.turn.new.state) c.self.view_is c.turn.ensures.disks.goes

pub returns-clause-halted : goal.returns-clause-halted
returns-clause-halted g c = λ halted.
    turn_halted c.turn.result c.end_of.result c.self.inside.state c.turn.new.state c.end_of.ensures (if_turned c.turn.result c.read_if-reading.result c.args.actor c.self.inside.state.world c.turn.ensures.end) c.turn.ensures.disks halted

pub returns-clause-fine : goal.returns-clause-fine
returns-clause-fine g c = λ other failed. turn_fine c.turn.result c.end_of.result c.self.inside.state c.turn.new.state c.end_of.ensures c.turn.ensures.disks c.turn.ensures.stops other failed

pub returns-clause-stops : goal.returns-clause-stops
returns-clause-stops g c = subst (λ v. Stops (c.end_of.result ≡ Halted) v.held c.turn.new.state) c.self.view_is (turn_stops c.turn.result c.end_of.result c.self.inside.state c.turn.new.state c.end_of.ensures c.turn.ensures.stops)

pub returns-clause-grows : goal.returns-clause-grows
returns-clause-grows g c =
    subst (λ v. Grows c.args.actor v.held c.turn.new.state) c.self.view_is
    (record { adds = c.turn.ensures.disks.adds; run = turn_of_run c.turn.result c.read_if-reading.result c.args.actor c.self.inside.state.world c.turn.new.state.world c.turn.ensures.ok c.turn.ensures.err })

pub returns-clause-telling : goal.returns-clause-telling
returns-clause-telling g c owed =
    let here : is_owed (slice_get c.self.inside.state.world.sessions c.args.actor) ≡ true = subst (λ v. is_owed (slice_get v.held.world.sessions c.args.actor) ≡ true) (sym c.self.view_is) owed in
    turn_told c.turn.result c.end_of.result c.read_if-reading.result c.args.actor c.self.inside.state.world c.end_of.ensures c.turn.ensures.end (c.turn.ensures.telling here) (running_few c.self.invariant.readings c.self.inside.state.world c.self.invariant.running) here

pub returns-clause-brief : goal.returns-clause-brief
returns-clause-brief g c = subst (λ v. AreBrief v.held.entries → AreBrief c.turn.new.state.entries) c.self.view_is c.turn.ensures.disks.adds.brief
