use Rattle.std.proofs.Common.{refl, ◌≡◌, length, Some, sym, ap, ◌∙◌, subst}
use Rattle.std.specs.Prelude.{option_copied, option_map, slice_get}
use Rattle.session_registry.specs.Sessions.{session_of, unmarked}
use Rattle.queue_rows.specs.World.{at_home, at_away}
use Rattle.run_state.specs.Promises.{promised}
use Rattle.run_state.specs.Reserved.{HasPlaces}
use Rattle.run_state.proofs.Calls.{not_absent}
use Rattle.durable_state.specs.Brief.{IsBrief}
use Rattle.durable_state.specs.declared.run_logs.RunLogs.{RunLogs}
use Rattle.durable_state.specs.Going.{AddsEntries, Goes}
use Rattle.durable_state.specs.Held.{Held}
use Rattle.durable_state.proofs.Growing.{adds_same}
use Rattle.durable_state.proofs.Stepping.{follows, held_of}
use Rattle.durable_state.proofs.Worlds.{called_adds}
use Rattle.durable_state.proofs.durable_state.DurableState.call.Goals as goal

pub invariant_of-self-2 : goal.invariant_of-self-2
invariant_of-self-2 g c =
    let is : option_map session_of (Some c.in-Some.session.now) ≡ option_map unmarked (slice_get c.self.inside.state.sessions c.args.at) = sym (ap (λ o. option_map session_of (option_copied o)) c.in-Some.is) ∙ c.session.ensures in
    let w = c.self.inside.state in
    let v = c.call-made.new.self in
    let db = c.in-Some.session.now.at in
    let cs = c.args.effect.commit in
    let f = follows g.D.Disk.seen g.D.Disk.is_image g.D.Disk.calls g.D.Disk.faults c.call-made.result c.args.at w.moment (at_home db cs) (at_away db cs) c.in_ok-queued.queued w v c.self.inside.logs c.enter_at.new.self c.settle.new.self
    c.self.invariant.few c.self.invariant.brief refl c.in_ok-queued.ensures.same c.in_ok-queued.ensures.ok c.in_ok-queued.ensures.room c.settle.ensures.ok c.settle.ensures.err
    (called_adds c.call-made.result c.args.at w v c.in-Some.session.now c.args.effect is c.call-made.ensures.ok) c.call-made.ensures.err in
    record { few = f.few; room = f.room; brief = f.brief }

pub returns-clause-disks : goal.returns-clause-disks
returns-clause-disks g c =
    let is : option_map session_of (Some c.in-Some.session.now) ≡ option_map unmarked (slice_get c.self.inside.state.sessions c.args.at) = sym (ap (λ o. option_map session_of (option_copied o)) c.in-Some.is) ∙ c.session.ensures in
    let w = c.self.inside.state in
    let v = c.call-made.new.self in
    let db = c.in-Some.session.now.at in
    let cs = c.args.effect.commit in
    subst (λ (o : Held _). Goes g.D.Disk.seen g.D.Disk.is_image g.D.Disk.calls g.D.Disk.faults o (held_of v c.settle.new.self)) c.self.view_is
    (follows g.D.Disk.seen g.D.Disk.is_image g.D.Disk.calls g.D.Disk.faults c.call-made.result c.args.at w.moment (at_home db cs) (at_away db cs) c.in_ok-queued.queued w v c.self.inside.logs c.enter_at.new.self c.settle.new.self
    c.self.invariant.few c.self.invariant.brief refl c.in_ok-queued.ensures.same c.in_ok-queued.ensures.ok c.in_ok-queued.ensures.room c.settle.ensures.ok c.settle.ensures.err
    (called_adds c.call-made.result c.args.at w v c.in-Some.session.now c.args.effect is c.call-made.ensures.ok) c.call-made.ensures.err).goes

pub returns-clause-adds : goal.returns-clause-adds
returns-clause-adds g c =
    let is : option_map session_of (Some c.in-Some.session.now) ≡ option_map unmarked (slice_get c.self.inside.state.sessions c.args.at) = sym (ap (λ o. option_map session_of (option_copied o)) c.in-Some.is) ∙ c.session.ensures in
    let w = c.self.inside.state in
    let v = c.call-made.new.self in
    let db = c.in-Some.session.now.at in
    let cs = c.args.effect.commit in
    subst (λ (o : Held _). AddsEntries c.args.at o (held_of v c.settle.new.self)) c.self.view_is
    (follows g.D.Disk.seen g.D.Disk.is_image g.D.Disk.calls g.D.Disk.faults c.call-made.result c.args.at w.moment (at_home db cs) (at_away db cs) c.in_ok-queued.queued w v c.self.inside.logs c.enter_at.new.self c.settle.new.self
    c.self.invariant.few c.self.invariant.brief refl c.in_ok-queued.ensures.same c.in_ok-queued.ensures.ok c.in_ok-queued.ensures.room c.settle.ensures.ok c.settle.ensures.err
    (called_adds c.call-made.result c.args.at w v c.in-Some.session.now c.args.effect is c.call-made.ensures.ok) c.call-made.ensures.err).adds

pub returns-in_err-queued-clause-absent : goal.returns-in_err-queued-clause-absent
returns-in_err-queued-clause-absent g c absent =
    let is : option_map session_of (Some c.in-Some.session.now) ≡ option_map unmarked (slice_get c.self.inside.state.sessions c.args.at) = sym (ap (λ o. option_map session_of (option_copied o)) c.in-Some.is) ∙ c.session.ensures in
    not_absent _ _ c.args.at c.in-Some.session.now (ap (λ (o : Held _). o.world) c.self.view_is) is absent

pub returns-clause-absent : goal.returns-clause-absent
returns-clause-absent g c absent =
    let is : option_map session_of (Some c.in-Some.session.now) ≡ option_map unmarked (slice_get c.self.inside.state.sessions c.args.at) = sym (ap (λ o. option_map session_of (option_copied o)) c.in-Some.is) ∙ c.session.ensures in
    not_absent _ _ c.args.at c.in-Some.session.now (ap (λ (o : Held _). o.world) c.self.view_is) is absent

pub returns-in_default-clause-adds : goal.returns-in_default-clause-adds
returns-in_default-clause-adds g c = adds_same _ _ refl

pub returns-in_err-queued-clause-adds : goal.returns-in_err-queued-clause-adds
returns-in_err-queued-clause-adds g c = adds_same _ _ (ap (held_of c.self.inside.state) c.in_err-queued.ensures.err ∙ c.self.view_is)

pub invariant_of-self : goal.invariant_of-self
invariant_of-self g c =
    let w = c.self.inside.state in
    let same = c.in_err-queued.ensures.err in
    record {
      few = ap (λ (l : RunLogs _). length l.calls.items) same ∙ c.self.invariant.few;
      room = subst (λ (l : RunLogs _). HasPlaces (promised w) l.calls) (sym same) c.self.invariant.room;
      brief = subst (λ (l : RunLogs _). IsBrief g.D.Disk.calls (held_of w l)) (sym same) c.self.invariant.brief;
    }
