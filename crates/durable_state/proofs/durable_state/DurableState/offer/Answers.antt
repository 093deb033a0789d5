use Rattle.std.proofs.Common.{refl, [], ap, ◌∙◌, subst}
use Rattle.durable_state.specs.Going.{AddsEntries, Goes}
use Rattle.durable_state.specs.Held.{Held}
use Rattle.durable_state.proofs.Growing.{adds_same}
use Rattle.durable_state.proofs.Stepping.{follows, held_of}
use Rattle.durable_state.proofs.Worlds.{offered_adds}
use Rattle.durable_state.proofs.durable_state.DurableState.offer.Goals as goal

pub invariant_of-self-2 : goal.invariant_of-self-2
invariant_of-self-2 g c =
    let w = c.self.inside.state in
    let v = c.offer-made.new.self in
    let f = follows g.D.Disk.seen g.D.Disk.is_image g.D.Disk.calls g.D.Disk.faults c.offer-made.result c.args.actor w.moment [] [] c.in_ok-queued.queued w v c.self.inside.logs c.note.new.self c.settle.new.self
    c.self.invariant.few c.self.invariant.brief refl c.in_ok-queued.ensures.same c.in_ok-queued.ensures.ok c.in_ok-queued.ensures.room c.settle.ensures.ok c.settle.ensures.err
    (offered_adds c.offer-made.result c.args.actor w v c.args.at c.args.to c.offer-made.ensures.ok) c.offer-made.ensures.err in
    record { few = f.few; room = f.room; brief = f.brief }

pub returns-clause-disks : goal.returns-clause-disks
returns-clause-disks g c =
    let w = c.self.inside.state in
    let v = c.offer-made.new.self in
    subst (λ (o : Held _). Goes g.D.Disk.seen g.D.Disk.is_image g.D.Disk.calls g.D.Disk.faults o (held_of v c.settle.new.self)) c.self.view_is
    (follows g.D.Disk.seen g.D.Disk.is_image g.D.Disk.calls g.D.Disk.faults c.offer-made.result c.args.actor w.moment [] [] c.in_ok-queued.queued w v c.self.inside.logs c.note.new.self c.settle.new.self
    c.self.invariant.few c.self.invariant.brief refl c.in_ok-queued.ensures.same c.in_ok-queued.ensures.ok c.in_ok-queued.ensures.room c.settle.ensures.ok c.settle.ensures.err
    (offered_adds c.offer-made.result c.args.actor w v c.args.at c.args.to c.offer-made.ensures.ok) c.offer-made.ensures.err).goes

pub returns-clause-adds : goal.returns-clause-adds
returns-clause-adds g c =
    let w = c.self.inside.state in
    let v = c.offer-made.new.self in
    subst (λ (o : Held _). AddsEntries c.args.actor o (held_of v c.settle.new.self)) c.self.view_is
    (follows g.D.Disk.seen g.D.Disk.is_image g.D.Disk.calls g.D.Disk.faults c.offer-made.result c.args.actor w.moment [] [] c.in_ok-queued.queued w v c.self.inside.logs c.note.new.self c.settle.new.self
    c.self.invariant.few c.self.invariant.brief refl c.in_ok-queued.ensures.same c.in_ok-queued.ensures.ok c.in_ok-queued.ensures.room c.settle.ensures.ok c.settle.ensures.err
    (offered_adds c.offer-made.result c.args.actor w v c.args.at c.args.to c.offer-made.ensures.ok) c.offer-made.ensures.err).adds

pub returns-in_err-queued-clause-adds : goal.returns-in_err-queued-clause-adds
returns-in_err-queued-clause-adds g c = adds_same _ _ (ap (held_of c.self.inside.state) c.in_err-queued.ensures.err ∙ c.self.view_is)
