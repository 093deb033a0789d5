use Rattle.std.proofs.Common.{refl, ap, ◌∙◌, subst}
use Rattle.queue_rows.specs.declared.history.Step.TheVariants.{Timer}
use Rattle.durable_state.specs.Going.{AddsEntries, Goes}
use Rattle.durable_state.specs.Held.{Held}
use Rattle.durable_state.proofs.Growing.{adds_same}
use Rattle.durable_state.proofs.Stepping.{follows, held_of}
use Rattle.durable_state.proofs.Worlds.{stepped_adds}
use Rattle.durable_state.proofs.durable_state.DurableState.time.Goals as goal

pub invariant_of-self-2 : goal.invariant_of-self-2
invariant_of-self-2 g c =
    let w = c.self.inside.state in
    let v = c.time-made.new.self in
    let f = follows g.D.Disk.seen g.D.Disk.is_image g.D.Disk.calls g.D.Disk.faults c.time-made.result c.args.actor w.moment c.args.home c.args.away c.in_ok-queued.queued w v c.self.inside.logs c.enter.new.self c.settle.new.self
    c.self.invariant.few c.self.invariant.brief refl c.in_ok-queued.ensures.same c.in_ok-queued.ensures.ok c.in_ok-queued.ensures.room c.settle.ensures.ok c.settle.ensures.err
    (stepped_adds c.time-made.result c.args.actor w v c.args.home c.args.away Timer refl c.time-made.ensures.ok) c.time-made.ensures.err in
    record { few = f.few; room = f.room; brief = f.brief }

pub returns-clause-disks : goal.returns-clause-disks
returns-clause-disks g c =
    let w = c.self.inside.state in
    let v = c.time-made.new.self in
    subst (λ (o : Held _). Goes g.D.Disk.seen g.D.Disk.is_image g.D.Disk.calls g.D.Disk.faults o (held_of v c.settle.new.self)) c.self.view_is
    (follows g.D.Disk.seen g.D.Disk.is_image g.D.Disk.calls g.D.Disk.faults c.time-made.result c.args.actor w.moment c.args.home c.args.away c.in_ok-queued.queued w v c.self.inside.logs c.enter.new.self c.settle.new.self
    c.self.invariant.few c.self.invariant.brief refl c.in_ok-queued.ensures.same c.in_ok-queued.ensures.ok c.in_ok-queued.ensures.room c.settle.ensures.ok c.settle.ensures.err
    (stepped_adds c.time-made.result c.args.actor w v c.args.home c.args.away Timer refl c.time-made.ensures.ok) c.time-made.ensures.err).goes

pub returns-clause-adds : goal.returns-clause-adds
returns-clause-adds g c =
    let w = c.self.inside.state in
    let v = c.time-made.new.self in
    subst (λ (o : Held _). AddsEntries c.args.actor o (held_of v c.settle.new.self)) c.self.view_is
    (follows g.D.Disk.seen g.D.Disk.is_image g.D.Disk.calls g.D.Disk.faults c.time-made.result c.args.actor w.moment c.args.home c.args.away c.in_ok-queued.queued w v c.self.inside.logs c.enter.new.self c.settle.new.self
    c.self.invariant.few c.self.invariant.brief refl c.in_ok-queued.ensures.same c.in_ok-queued.ensures.ok c.in_ok-queued.ensures.room c.settle.ensures.ok c.settle.ensures.err
    (stepped_adds c.time-made.result c.args.actor w v c.args.home c.args.away Timer refl c.time-made.ensures.ok) c.time-made.ensures.err).adds

pub returns-in_err-queued-clause-adds : goal.returns-in_err-queued-clause-adds
returns-in_err-queued-clause-adds g c = adds_same _ _ (ap (held_of c.self.inside.state) c.in_err-queued.ensures.err ∙ c.self.view_is)
