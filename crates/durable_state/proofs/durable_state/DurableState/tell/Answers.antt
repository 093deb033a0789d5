use Rattle.std.proofs.Common.{refl, ◌≡◌, Some, sym, ap, ◌∙◌, subst, arith}
use Rattle.std.specs.Prelude.{option_copied, option_map, slice_get}
use Rattle.queue_rows.specs.Turns.{flushed}
use Rattle.session_registry.specs.Sessions.{session_of, unmarked}
use Rattle.run_state.proofs.Calls.{not_absent}
use Rattle.durable_state.specs.Going.{AddsEntries, Goes, goes_on}
use Rattle.durable_state.specs.Held.{Held, HasFailed}
use Rattle.durable_state.proofs.Growing.{adds_on, adds_same}
use Rattle.durable_state.proofs.Ordering.{none_stopped}
use Rattle.durable_state.proofs.Stepping.{follows_passed, held_of}
use Rattle.durable_state.proofs.Worlds.{flushed_behind, owed_behind, session_behind, still_flushed, told_adds, told_on, told_takes}
use Rattle.durable_state.proofs.durable_state.DurableState.tell.Goals as goal

pub tell-requires : goal.tell-requires
tell-requires g c =
    let w = c.self-2.inside.state in
    let now = flushed_behind c.args.at c.self.inside.state c.args.self.now.world c.flush.new.self.world w (ap (λ (o : Held _). o.world) c.self.view_is) (ap (λ (o : Held _). o.world) c.self-2.view_is) c.in_ok-flush.ensures.ok in
    let behind = now ∙ ap (λ (o : Held _). flushed c.args.at o.world) c.self.view_is in
    owed_behind c.args.at c.args.self.now.world w behind c.requires

pub pass-requires : goal.pass-requires
pass-requires g c =
    let w = c.self-2.inside.state in
    let v = c.tell.new.self in
    let now = flushed_behind c.args.at c.self.inside.state c.args.self.now.world c.flush.new.self.world w (ap (λ (o : Held _). o.world) c.self.view_is) (ap (λ (o : Held _). o.world) c.self-2.view_is) c.in_ok-flush.ensures.ok in
    let behind = now ∙ ap (λ (o : Held _). flushed c.args.at o.world) c.self.view_is in
    let is : option_map session_of (Some c.in-Some.field-0.now) ≡ option_map unmarked (slice_get c.self.inside.state.sessions c.args.at) = sym (ap (λ o. option_map session_of (option_copied o)) c.in-Some.is) ∙ c.session.ensures in
    let there = session_behind c.args.at c.self.inside.state w c.in-Some.field-0.now now is in
    let owed = owed_behind c.args.at c.args.self.now.world w behind c.requires in
    let takes = told_takes c.args.at c.args.number w v c.in-Some.field-0.now there owed c.tell.ensures.told in
    let room = c.self-2.invariant.room in
    omega (arith, takes, room)

pub invariant_of-self : goal.invariant_of-self
invariant_of-self g c =
    let w = c.self-2.inside.state in
    let v = c.tell.new.self in
    let now = flushed_behind c.args.at c.self.inside.state c.args.self.now.world c.flush.new.self.world w (ap (λ (o : Held _). o.world) c.self.view_is) (ap (λ (o : Held _). o.world) c.self-2.view_is) c.in_ok-flush.ensures.ok in
    let behind = now ∙ ap (λ (o : Held _). flushed c.args.at o.world) c.self.view_is in
    let is : option_map session_of (Some c.in-Some.field-0.now) ≡ option_map unmarked (slice_get c.self.inside.state.sessions c.args.at) = sym (ap (λ o. option_map session_of (option_copied o)) c.in-Some.is) ∙ c.session.ensures in
    let there = session_behind c.args.at c.self.inside.state w c.in-Some.field-0.now now is in
    let owed = owed_behind c.args.at c.args.self.now.world w behind c.requires in
    let takes = told_takes c.args.at c.args.number w v c.in-Some.field-0.now there owed c.tell.ensures.told in
    let still = still_flushed c.args.at c.self.inside.state w now in
    let f = follows_passed g.D.Disk.seen g.D.Disk.is_image g.D.Disk.calls g.D.Disk.faults c.args.at w v c.self-2.inside.logs c.pass.new.self c.self-2.invariant.few c.self-2.invariant.brief c.self-2.invariant.room takes c.pass.ensures.capacity
    (c.pass.ensures.enters w.moment) (told_adds c.args.at c.args.number w v c.in-Some.field-0.now there still c.tell.ensures.told) in
    record { few = f.few; room = f.room; brief = f.brief }

pub returns-clause-ok : goal.returns-clause-ok
returns-clause-ok g c =
    let w = c.self-2.inside.state in
    let v = c.tell.new.self in
    let now = flushed_behind c.args.at c.self.inside.state c.args.self.now.world c.flush.new.self.world w (ap (λ (o : Held _). o.world) c.self.view_is) (ap (λ (o : Held _). o.world) c.self-2.view_is) c.in_ok-flush.ensures.ok in
    let behind = now ∙ ap (λ (o : Held _). flushed c.args.at o.world) c.self.view_is in
    told_on c.args.at c.args.number c.args.self.now.world w v behind c.tell.ensures.told

pub returns-clause-disks : goal.returns-clause-disks
returns-clause-disks g c =
    let w = c.self-2.inside.state in
    let v = c.tell.new.self in
    let now = flushed_behind c.args.at c.self.inside.state c.args.self.now.world c.flush.new.self.world w (ap (λ (o : Held _). o.world) c.self.view_is) (ap (λ (o : Held _). o.world) c.self-2.view_is) c.in_ok-flush.ensures.ok in
    let behind = now ∙ ap (λ (o : Held _). flushed c.args.at o.world) c.self.view_is in
    let is : option_map session_of (Some c.in-Some.field-0.now) ≡ option_map unmarked (slice_get c.self.inside.state.sessions c.args.at) = sym (ap (λ o. option_map session_of (option_copied o)) c.in-Some.is) ∙ c.session.ensures in
    let there = session_behind c.args.at c.self.inside.state w c.in-Some.field-0.now now is in
    let owed = owed_behind c.args.at c.args.self.now.world w behind c.requires in
    let takes = told_takes c.args.at c.args.number w v c.in-Some.field-0.now there owed c.tell.ensures.told in
    let still = still_flushed c.args.at c.self.inside.state w now in
    let f = follows_passed g.D.Disk.seen g.D.Disk.is_image g.D.Disk.calls g.D.Disk.faults c.args.at w v c.self-2.inside.logs c.pass.new.self c.self-2.invariant.few c.self-2.invariant.brief c.self-2.invariant.room takes c.pass.ensures.capacity
    (c.pass.ensures.enters w.moment) (told_adds c.args.at c.args.number w v c.in-Some.field-0.now there still c.tell.ensures.told) in
    goes_on g.D.Disk.seen g.D.Disk.is_image g.D.Disk.calls g.D.Disk.faults c.args.self.now c.flush.new.self (held_of v c.pass.new.self) c.flush.ensures.disks
    (subst (λ (o : Held _). Goes g.D.Disk.seen g.D.Disk.is_image g.D.Disk.calls g.D.Disk.faults o (held_of v c.pass.new.self)) c.self-2.view_is f.goes)

pub returns-clause-adds : goal.returns-clause-adds
returns-clause-adds g c =
    let w = c.self-2.inside.state in
    let v = c.tell.new.self in
    let now = flushed_behind c.args.at c.self.inside.state c.args.self.now.world c.flush.new.self.world w (ap (λ (o : Held _). o.world) c.self.view_is) (ap (λ (o : Held _). o.world) c.self-2.view_is) c.in_ok-flush.ensures.ok in
    let behind = now ∙ ap (λ (o : Held _). flushed c.args.at o.world) c.self.view_is in
    let is : option_map session_of (Some c.in-Some.field-0.now) ≡ option_map unmarked (slice_get c.self.inside.state.sessions c.args.at) = sym (ap (λ o. option_map session_of (option_copied o)) c.in-Some.is) ∙ c.session.ensures in
    let there = session_behind c.args.at c.self.inside.state w c.in-Some.field-0.now now is in
    let owed = owed_behind c.args.at c.args.self.now.world w behind c.requires in
    let takes = told_takes c.args.at c.args.number w v c.in-Some.field-0.now there owed c.tell.ensures.told in
    let still = still_flushed c.args.at c.self.inside.state w now in
    let f = follows_passed g.D.Disk.seen g.D.Disk.is_image g.D.Disk.calls g.D.Disk.faults c.args.at w v c.self-2.inside.logs c.pass.new.self c.self-2.invariant.few c.self-2.invariant.brief c.self-2.invariant.room takes c.pass.ensures.capacity
    (c.pass.ensures.enters w.moment) (told_adds c.args.at c.args.number w v c.in-Some.field-0.now there still c.tell.ensures.told) in
    adds_on c.args.self.now c.flush.new.self (held_of v c.pass.new.self) c.flush.ensures.adds
    (subst (λ (o : Held _). AddsEntries c.args.at o (held_of v c.pass.new.self)) c.self-2.view_is f.adds)

pub returns-clause-fine : goal.returns-clause-fine
returns-clause-fine g c failed =
    let w = c.self-2.inside.state in
    let v = c.tell.new.self in
    let now = flushed_behind c.args.at c.self.inside.state c.args.self.now.world c.flush.new.self.world w (ap (λ (o : Held _). o.world) c.self.view_is) (ap (λ (o : Held _). o.world) c.self-2.view_is) c.in_ok-flush.ensures.ok in
    let behind = now ∙ ap (λ (o : Held _). flushed c.args.at o.world) c.self.view_is in
    let is : option_map session_of (Some c.in-Some.field-0.now) ≡ option_map unmarked (slice_get c.self.inside.state.sessions c.args.at) = sym (ap (λ o. option_map session_of (option_copied o)) c.in-Some.is) ∙ c.session.ensures in
    let there = session_behind c.args.at c.self.inside.state w c.in-Some.field-0.now now is in
    let owed = owed_behind c.args.at c.args.self.now.world w behind c.requires in
    let takes = told_takes c.args.at c.args.number w v c.in-Some.field-0.now there owed c.tell.ensures.told in
    let still = still_flushed c.args.at c.self.inside.state w now in
    let f = follows_passed g.D.Disk.seen g.D.Disk.is_image g.D.Disk.calls g.D.Disk.faults c.args.at w v c.self-2.inside.logs c.pass.new.self c.self-2.invariant.few c.self-2.invariant.brief c.self-2.invariant.room takes c.pass.ensures.capacity
    (c.pass.ensures.enters w.moment) (told_adds c.args.at c.args.number w v c.in-Some.field-0.now there still c.tell.ensures.told) in
    absurd (c.in_ok-flush.ensures.unfailed (subst (λ (o : Held _). HasFailed o) c.self-2.view_is (f.fine failed)))

pub returns-clause-order : goal.returns-clause-order
returns-clause-order g c fine =
    let w = c.self-2.inside.state in
    let v = c.tell.new.self in
    let now = flushed_behind c.args.at c.self.inside.state c.args.self.now.world c.flush.new.self.world w (ap (λ (o : Held _). o.world) c.self.view_is) (ap (λ (o : Held _). o.world) c.self-2.view_is) c.in_ok-flush.ensures.ok in
    let behind = now ∙ ap (λ (o : Held _). flushed c.args.at o.world) c.self.view_is in
    let is : option_map session_of (Some c.in-Some.field-0.now) ≡ option_map unmarked (slice_get c.self.inside.state.sessions c.args.at) = sym (ap (λ o. option_map session_of (option_copied o)) c.in-Some.is) ∙ c.session.ensures in
    let there = session_behind c.args.at c.self.inside.state w c.in-Some.field-0.now now is in
    let owed = owed_behind c.args.at c.args.self.now.world w behind c.requires in
    let takes = told_takes c.args.at c.args.number w v c.in-Some.field-0.now there owed c.tell.ensures.told in
    let still = still_flushed c.args.at c.self.inside.state w now in
    let f = follows_passed g.D.Disk.seen g.D.Disk.is_image g.D.Disk.calls g.D.Disk.faults c.args.at w v c.self-2.inside.logs c.pass.new.self c.self-2.invariant.few c.self-2.invariant.brief c.self-2.invariant.room takes c.pass.ensures.capacity
    (c.pass.ensures.enters w.moment) (told_adds c.args.at c.args.number w v c.in-Some.field-0.now there still c.tell.ensures.told) in
    none_stopped c.args.self.now (held_of v c.pass.new.self) (λ failed. c.in_ok-flush.ensures.unfailed (subst (λ (o : Held _). HasFailed o) c.self-2.view_is (f.fine failed)))

pub returns-in_err-flush-clause-order : goal.returns-in_err-flush-clause-order
returns-in_err-flush-clause-order g c fine = c.flush.ensures.order fine

pub returns-in_default-clause-order : goal.returns-in_default-clause-order
returns-in_default-clause-order g c fine = none_stopped c.args.self.now c.args.self.now fine

pub returns-in_default-clause-adds : goal.returns-in_default-clause-adds
returns-in_default-clause-adds g c = adds_same _ _ refl

pub returns-clause-absent : goal.returns-clause-absent
returns-clause-absent g c absent =
    let is : option_map session_of (Some c.in-Some.field-0.now) ≡ option_map unmarked (slice_get c.self.inside.state.sessions c.args.at) = sym (ap (λ o. option_map session_of (option_copied o)) c.in-Some.is) ∙ c.session.ensures in
    not_absent _ _ c.args.at c.in-Some.field-0.now (ap (λ (o : Held _). o.world) c.self.view_is) is absent

pub returns-in_err-flush-clause-absent : goal.returns-in_err-flush-clause-absent
returns-in_err-flush-clause-absent g c absent =
    let is : option_map session_of (Some c.in-Some.field-0.now) ≡ option_map unmarked (slice_get c.self.inside.state.sessions c.args.at) = sym (ap (λ o. option_map session_of (option_copied o)) c.in-Some.is) ∙ c.session.ensures in
    not_absent _ _ c.args.at c.in-Some.field-0.now (ap (λ (o : Held _). o.world) c.self.view_is) is absent
