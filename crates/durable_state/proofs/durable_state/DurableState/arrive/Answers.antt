use Rattle.std.proofs.Common.{refl, sym, ap, ◌∙◌, subst}
use Rattle.run_state.specs.Outcomes.{meant}
use Rattle.durable_state.specs.Going.{AddsEntries, Goes}
use Rattle.durable_state.specs.Held.{Held, HasFailed}
use Rattle.durable_state.proofs.Growing.{adds_same}
use Rattle.durable_state.proofs.Stepping.{follows, held_of}
use Rattle.durable_state.proofs.Worlds.{arrived_adds}
use Rattle.durable_state.proofs.durable_state.DurableState.arrive.Goals as goal

pub invariant_of-self-2 : goal.invariant_of-self-2
invariant_of-self-2 g c =
    let w = c.self.inside.state in
    let v = c.arrive-made.new.self in
    let home = c.sides.result.0.now in
    let away = c.sides.result.1.now in
    let f = follows g.D.Disk.seen g.D.Disk.is_image g.D.Disk.calls g.D.Disk.faults c.arrive-made.result c.args.actor w.moment home away c.in_ok-queued.queued w v c.self.inside.logs c.enter.new.self c.settle.new.self
    c.self.invariant.few c.self.invariant.brief refl c.in_ok-queued.ensures.same c.in_ok-queued.ensures.ok c.in_ok-queued.ensures.room c.settle.ensures.ok c.settle.ensures.err
    (arrived_adds c.arrive-made.result c.args.actor w v c.args.at (meant c.args.arriving) home away (sym c.sides.ensures.first) (sym c.sides.ensures.second) c.arrive-made.ensures.ok) c.arrive-made.ensures.err in
    record { few = f.few; room = f.room; brief = f.brief }

pub returns-clause-disks : goal.returns-clause-disks
returns-clause-disks g c =
    let w = c.self.inside.state in
    let v = c.arrive-made.new.self in
    let home = c.sides.result.0.now in
    let away = c.sides.result.1.now in
    subst (λ (o : Held _). Goes g.D.Disk.seen g.D.Disk.is_image g.D.Disk.calls g.D.Disk.faults o (held_of v c.settle.new.self)) c.self.view_is
    (follows g.D.Disk.seen g.D.Disk.is_image g.D.Disk.calls g.D.Disk.faults c.arrive-made.result c.args.actor w.moment home away c.in_ok-queued.queued w v c.self.inside.logs c.enter.new.self c.settle.new.self
    c.self.invariant.few c.self.invariant.brief refl c.in_ok-queued.ensures.same c.in_ok-queued.ensures.ok c.in_ok-queued.ensures.room c.settle.ensures.ok c.settle.ensures.err
    (arrived_adds c.arrive-made.result c.args.actor w v c.args.at (meant c.args.arriving) home away (sym c.sides.ensures.first) (sym c.sides.ensures.second) c.arrive-made.ensures.ok) c.arrive-made.ensures.err).goes

pub returns-clause-adds : goal.returns-clause-adds
returns-clause-adds g c =
    let w = c.self.inside.state in
    let v = c.arrive-made.new.self in
    let home = c.sides.result.0.now in
    let away = c.sides.result.1.now in
    subst (λ (o : Held _). AddsEntries c.args.actor o (held_of v c.settle.new.self)) c.self.view_is
    (follows g.D.Disk.seen g.D.Disk.is_image g.D.Disk.calls g.D.Disk.faults c.arrive-made.result c.args.actor w.moment home away c.in_ok-queued.queued w v c.self.inside.logs c.enter.new.self c.settle.new.self
    c.self.invariant.few c.self.invariant.brief refl c.in_ok-queued.ensures.same c.in_ok-queued.ensures.ok c.in_ok-queued.ensures.room c.settle.ensures.ok c.settle.ensures.err
    (arrived_adds c.arrive-made.result c.args.actor w v c.args.at (meant c.args.arriving) home away (sym c.sides.ensures.first) (sym c.sides.ensures.second) c.arrive-made.ensures.ok) c.arrive-made.ensures.err).adds

pub returns-clause-fine : goal.returns-clause-fine
returns-clause-fine g c failed =
    let w = c.self.inside.state in
    let v = c.arrive-made.new.self in
    let home = c.sides.result.0.now in
    let away = c.sides.result.1.now in
    subst (λ (o : Held _). HasFailed o) c.self.view_is
    ((follows g.D.Disk.seen g.D.Disk.is_image g.D.Disk.calls g.D.Disk.faults c.arrive-made.result c.args.actor w.moment home away c.in_ok-queued.queued w v c.self.inside.logs c.enter.new.self c.settle.new.self
    c.self.invariant.few c.self.invariant.brief refl c.in_ok-queued.ensures.same c.in_ok-queued.ensures.ok c.in_ok-queued.ensures.room c.settle.ensures.ok c.settle.ensures.err
    (arrived_adds c.arrive-made.result c.args.actor w v c.args.at (meant c.args.arriving) home away (sym c.sides.ensures.first) (sym c.sides.ensures.second) c.arrive-made.ensures.ok) c.arrive-made.ensures.err).fine failed)

pub returns-in_err-queued-clause-adds : goal.returns-in_err-queued-clause-adds
returns-in_err-queued-clause-adds g c = adds_same _ _ (ap (held_of c.self.inside.state) c.in_err-queued.ensures.err ∙ c.self.view_is)
