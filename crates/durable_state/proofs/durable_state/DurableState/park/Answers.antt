use Rattle.std.proofs.Common.{refl, ◌≡◌, [], Some, false, sym, ap, ◌∙◌, subst, rules}
use Rattle.std.specs.Prelude.{option_copied, option_map, is_some, slice_get}
use Rattle.session_registry.specs.Sessions.{session_of, unmarked}
use Rattle.run_state.proofs.Calls.{not_absent}
use Rattle.durable_state.specs.Going.{AddsEntries, Goes}
use Rattle.durable_state.specs.Held.{Held}
use Rattle.durable_state.proofs.Growing.{adds_same}
use Rattle.durable_state.proofs.Stepping.{follows, held_of}
use Rattle.durable_state.proofs.Worlds.{parked_adds}
use Rattle.durable_state.proofs.durable_state.DurableState.park.Goals as goal

pub invariant_of-self-2 : goal.invariant_of-self-2
invariant_of-self-2 g c =
    let is : option_map session_of (Some c.in-Some.session.now) ≡ option_map unmarked (slice_get c.self.inside.state.sessions c.args.at) = sym (ap (λ o. option_map session_of (option_copied o)) c.in-Some.is) ∙ c.session.ensures in
    let none : is_some c.in-Some.session.now.parked ≡ false = search rules in
    let w = c.self.inside.state in
    let v = c.park-made.new.self in
    let f = follows g.D.Disk.seen g.D.Disk.is_image g.D.Disk.calls g.D.Disk.faults c.park-made.result c.args.at w.moment [] [] c.in_ok-queued.queued w v c.self.inside.logs c.note.new.self c.settle.new.self
    c.self.invariant.few c.self.invariant.brief refl c.in_ok-queued.ensures.same c.in_ok-queued.ensures.ok c.in_ok-queued.ensures.room c.settle.ensures.ok c.settle.ensures.err
    (parked_adds c.park-made.result c.args.at c.args.since w v c.in-Some.session.now is none c.park-made.ensures.ok) c.park-made.ensures.err in
    record { few = f.few; room = f.room; brief = f.brief }

pub returns-clause-disks : goal.returns-clause-disks
returns-clause-disks g c =
    let is : option_map session_of (Some c.in-Some.session.now) ≡ option_map unmarked (slice_get c.self.inside.state.sessions c.args.at) = sym (ap (λ o. option_map session_of (option_copied o)) c.in-Some.is) ∙ c.session.ensures in
    let none : is_some c.in-Some.session.now.parked ≡ false = search rules in
    let w = c.self.inside.state in
    let v = c.park-made.new.self in
    subst (λ (o : Held _). Goes g.D.Disk.seen g.D.Disk.is_image g.D.Disk.calls g.D.Disk.faults o (held_of v c.settle.new.self)) c.self.view_is
    (follows g.D.Disk.seen g.D.Disk.is_image g.D.Disk.calls g.D.Disk.faults c.park-made.result c.args.at w.moment [] [] c.in_ok-queued.queued w v c.self.inside.logs c.note.new.self c.settle.new.self
    c.self.invariant.few c.self.invariant.brief refl c.in_ok-queued.ensures.same c.in_ok-queued.ensures.ok c.in_ok-queued.ensures.room c.settle.ensures.ok c.settle.ensures.err
    (parked_adds c.park-made.result c.args.at c.args.since w v c.in-Some.session.now is none c.park-made.ensures.ok) c.park-made.ensures.err).goes

pub returns-clause-adds : goal.returns-clause-adds
returns-clause-adds g c =
    let is : option_map session_of (Some c.in-Some.session.now) ≡ option_map unmarked (slice_get c.self.inside.state.sessions c.args.at) = sym (ap (λ o. option_map session_of (option_copied o)) c.in-Some.is) ∙ c.session.ensures in
    let none : is_some c.in-Some.session.now.parked ≡ false = search rules in
    let w = c.self.inside.state in
    let v = c.park-made.new.self in
    subst (λ (o : Held _). AddsEntries c.args.at o (held_of v c.settle.new.self)) c.self.view_is
    (follows g.D.Disk.seen g.D.Disk.is_image g.D.Disk.calls g.D.Disk.faults c.park-made.result c.args.at w.moment [] [] c.in_ok-queued.queued w v c.self.inside.logs c.note.new.self c.settle.new.self
    c.self.invariant.few c.self.invariant.brief refl c.in_ok-queued.ensures.same c.in_ok-queued.ensures.ok c.in_ok-queued.ensures.room c.settle.ensures.ok c.settle.ensures.err
    (parked_adds c.park-made.result c.args.at c.args.since w v c.in-Some.session.now is none c.park-made.ensures.ok) c.park-made.ensures.err).adds

pub returns-in_err-queued-clause-absent : goal.returns-in_err-queued-clause-absent
returns-in_err-queued-clause-absent g c absent =
    let is : option_map session_of (Some c.in-Some.session.now) ≡ option_map unmarked (slice_get c.self.inside.state.sessions c.args.at) = sym (ap (λ o. option_map session_of (option_copied o)) c.in-Some.is) ∙ c.session.ensures in
    not_absent _ _ c.args.at c.in-Some.session.now (ap (λ (o : Held _). o.world) c.self.view_is) is absent

pub returns-clause-absent : goal.returns-clause-absent
returns-clause-absent g c absent =
    let is : option_map session_of (Some c.in-Some.session.now) ≡ option_map unmarked (slice_get c.self.inside.state.sessions c.args.at) = sym (ap (λ o. option_map session_of (option_copied o)) c.in-Some.is) ∙ c.session.ensures in
    not_absent _ _ c.args.at c.in-Some.session.now (ap (λ (o : Held _). o.world) c.self.view_is) is absent

pub returns-in_default-clause-adds : goal.returns-in_default-clause-adds
returns-in_default-clause-adds g c = adds_same _ _ refl

pub returns-then-is_some-clause-adds : goal.returns-then-is_some-clause-adds
returns-then-is_some-clause-adds g c = adds_same _ _ refl

pub returns-in_err-queued-clause-adds : goal.returns-in_err-queued-clause-adds
returns-in_err-queued-clause-adds g c = adds_same _ _ (ap (held_of c.self.inside.state) c.in_err-queued.ensures.err ∙ c.self.view_is)
