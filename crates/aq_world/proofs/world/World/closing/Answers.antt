use Rattle.std.proofs.Common.{◌≡◌, ◌≤◌, ◌^◌, sym, subst}
use Rattle.durable_state.specs.Brief.{AreBrief}
use Rattle.durable_state.specs.Going.{Goes}
use Rattle.aq_world.specs.Clocked.{Grows, IsClosing}
use Rattle.aq_world.specs.Going.{Stops}
use Rattle.aq_world.proofs.Running.{drainable, closing_leaves, closing_of_run, part_of_run, closed_known, closed_world, closed_broken, halted_so, turn_halted, turn_fine, turn_stops, if_closed, takes_reading, told_count}
use Rattle.aq_world.specs.declared.turn_end.TurnEnd.TheVariants.{Halted}
use Rattle.aq_world.proofs.world.World.closing.Goals as goal

pub closing_turn-requires-clause-drainable : goal.closing_turn-requires-clause-drainable
closing_turn-requires-clause-drainable g c = drainable c.self.invariant.readings c.self.inside.state.world c.self.invariant.running c.now-reading.result

pub invariant_of-self : goal.invariant_of-self
invariant_of-self g c =
    let i = c.self.invariant in
    closing_leaves i.readings c.self.inside.state.world i.running c.now-reading.result g.C.Clock.given c.self.inside.clock c.now-reading.new.self i.told c.closing_turn.new.state.world c.closing_turn.result c.now-reading.ensures.reading c.closing_turn.ensures.ok c.closing_turn.ensures.err

pub returns-clause-known : goal.returns-clause-known
returns-clause-known g c = closed_known c.closing_turn.result c.end_of.result c.end_of.ensures c.closing_turn.ensures.end

pub returns-clause-turn : goal.returns-clause-turn
returns-clause-turn g c =
    let i = c.self.invariant in
    let w = c.self.inside.state.world in
    let reading = c.now-reading.result in
    subst (λ v. IsClosing g.C.Clock.given g.C.Clock.plan c.end_of.result v (record { held = c.closing_turn.new.state; clock = c.now-reading.new.self })) c.self.view_is
    (record {
      reading = reading;
      reads = takes_reading g.C.Clock.given g.C.Clock.plan g.met.C.Clock.as_planned w.readings reading c.self.inside.clock c.now-reading.new.self (subst (λ v. v.held.world.readings ≤ 2 ^ 63) (sym c.self.view_is) c.requires.readings) (told_count i.readings w (g.C.Clock.given c.self.inside.clock) i.running i.told) c.now-reading.ensures.reading c.now-reading.ensures.tells c.now-reading.ensures.planned;
      world = λ done. closed_world c.closing_turn.result c.end_of.result c.end_of.ensures c.closing_turn.ensures.ok done;
      front = λ broken. closed_broken c.closing_turn.result c.end_of.result c.end_of.ensures c.closing_turn.ensures.end c.closing_turn.ensures.front broken;
      run = λ broken. part_of_run reading w c.closing_turn.new.state.world (closed_broken c.closing_turn.result c.end_of.result c.end_of.ensures c.closing_turn.ensures.end c.closing_turn.ensures.err broken);
      due = λ halted fine. c.closing_turn.ensures.due (halted_so c.closing_turn.result c.end_of.result c.end_of.ensures halted (if_closed c.closing_turn.result c.closing_turn.ensures.end)) fine;
    })

pub returns-clause-disks : goal.returns-clause-disks
returns-clause-disks g c = subst (λ v. Goes g.D.Disk.seen g.D.Disk.is_image g.D.Disk.calls g.D.Disk.faults v.held c.closing_turn.new.state) c.self.view_is c.closing_turn.ensures.disks.goes

pub returns-clause-halted : goal.returns-clause-halted
returns-clause-halted g c = λ halted.
    turn_halted c.closing_turn.result c.end_of.result c.self.inside.state c.closing_turn.new.state c.end_of.ensures (if_closed c.closing_turn.result c.closing_turn.ensures.end) c.closing_turn.ensures.disks halted

pub returns-clause-fine : goal.returns-clause-fine
returns-clause-fine g c = λ other failed. turn_fine c.closing_turn.result c.end_of.result c.self.inside.state c.closing_turn.new.state c.end_of.ensures c.closing_turn.ensures.disks c.closing_turn.ensures.stops other failed

pub returns-clause-stops : goal.returns-clause-stops
returns-clause-stops g c =
    subst (λ v. Stops (c.end_of.result ≡ Halted) v.held c.closing_turn.new.state) c.self.view_is
    (turn_stops c.closing_turn.result c.end_of.result c.self.inside.state c.closing_turn.new.state c.end_of.ensures c.closing_turn.ensures.stops)

pub returns-clause-grows : goal.returns-clause-grows
returns-clause-grows g c =
    subst (λ v. Grows 66 v.held c.closing_turn.new.state) c.self.view_is
    (record { adds = c.closing_turn.ensures.disks.adds; run = closing_of_run c.closing_turn.result c.now-reading.result c.self.inside.state.world c.closing_turn.new.state.world c.closing_turn.ensures.ok c.closing_turn.ensures.err })

pub returns-clause-brief : goal.returns-clause-brief
returns-clause-brief g c = subst (λ v. AreBrief v.held.entries → AreBrief c.closing_turn.new.state.entries) c.self.view_is c.closing_turn.ensures.disks.adds.brief
