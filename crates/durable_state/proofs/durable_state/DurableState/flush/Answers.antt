use Rattle.std.proofs.Common.{refl, ◌≡◌, ◌≤◌, ◌+◌, length, arith, [], true, false, sym, ap, ◌∙◌, subst}
use Rattle.queue_rows.specs.Turns.{flushed, is_durable}
use Rattle.queue_rows.specs.World.{World}
use Rattle.run_state.specs.Promises.{promised}
use Rattle.run_state.specs.Reserved.{Reserved, HasPlaces}
use Rattle.run_state.proofs.Promises.{flush_takes}
use Rattle.durable_state.specs.Counted.{counted}
use Rattle.durable_state.specs.Going.{AddsEntries, Goes}
use Rattle.durable_state.specs.Held.{Held, HasFailed}
use Rattle.durable_state.specs.Writing.{WritesHomeFirst}
use Rattle.durable_state.specs.declared.disk_calls.DiskCalls.{DiskCalls}
use Rattle.durable_state.proofs.Growing.{adds_none, adds_same}
use Rattle.durable_state.proofs.Ordering.{at_err, none_stopped}
use Rattle.durable_state.proofs.Stepping.{calls_go, failed_brief, flush_adds, flush_brief, flush_counted, flush_goes, flush_room, held_of}
use Rattle.durable_state.proofs.Worlds.{Adds, adds_flush, flushed_same}
use Rattle.durable_state.proofs.durable_state.DurableState.flush.Goals as goal

pub returns-then-is_durable-clause-ok : goal.returns-then-is_durable-clause-ok
returns-then-is_durable-clause-ok g c =
    let w = c.self.inside.state in
    let durable : is_durable w ≡ true = sym c.is_durable.ensures ∙ c.if-is_durable.true in
    subst (λ (o : Held _). o.world ≡ flushed c.args.actor o.world) c.self.view_is (sym (flushed_same c.args.actor w durable))

pub returns-in_err-append-clause-disks : goal.returns-in_err-append-clause-disks
returns-in_err-append-clause-disks g c =
    let w = c.self.inside.state in
    let m = c.append.new.self in
    subst (λ (o : Held _). Goes g.D.Disk.seen g.D.Disk.is_image g.D.Disk.calls g.D.Disk.faults o (held_of w m)) c.self.view_is
    (calls_go g.D.Disk.seen g.D.Disk.is_image g.D.Disk.calls g.D.Disk.faults w c.self.inside.logs m (ap (λ l. l.items) c.append.ensures.calls) c.append.ensures.home_writes c.append.ensures.away_writes)

pub returns-in_err-append-clause-adds : goal.returns-in_err-append-clause-adds
returns-in_err-append-clause-adds g c =
    let w = c.self.inside.state in
    subst (λ (o : Held _). AddsEntries c.args.actor o (held_of w c.append.new.self)) c.self.view_is
    (adds_none (held_of w c.self.inside.logs) (held_of w c.append.new.self) (ap (λ l. counted w.entries l.items) c.append.ensures.calls))

pub count-requires : goal.count-requires
count-requires g c =
    let w = c.self.inside.state in
    let v = c.flush.new.self in
    let late : is_durable w ≡ false = sym c.is_durable.ensures ∙ c.if-is_durable.false in
    let takes = subst (λ (u : World). promised u + 1 ≤ promised w) (sym c.flush.ensures) (flush_takes c.args.actor w late) in
    let same = ap (λ l. length l.items) c.append.ensures.calls in
    let most = ap (λ l. l.capacity) c.append.ensures.calls in
    let room = c.self.invariant.room in
    omega (arith, takes, same, most, room)

pub invariant_of-self-2 : goal.invariant_of-self-2
invariant_of-self-2 g c =
    let w = c.self.inside.state in
    let v = c.flush.new.self in
    let l = c.self.inside.logs in
    let m = c.append.new.self in
    let n = c.count.new.self in
    let late : is_durable w ≡ false = sym c.is_durable.ensures ∙ c.if-is_durable.false in
    let a : Adds c.args.actor true [] [] w v = subst (λ (u : World). Adds c.args.actor true [] [] w u) (sym c.flush.ensures) (adds_flush c.args.actor w late) in
    let takes = subst (λ (u : World). promised u + 1 ≤ promised w) (sym c.flush.ensures) (flush_takes c.args.actor w late) in
    let most = ap (λ l. l.capacity) c.append.ensures.calls in
    let more = c.count.ensures.capacity in
    record {
      few = flush_counted g.D.Disk.seen g.D.Disk.is_image g.D.Disk.calls g.D.Disk.faults c.args.actor w v l m n c.self.invariant.few (ap (λ o. o.items) c.append.ensures.calls) c.count.ensures.home c.count.ensures.away c.count.ensures.calls a
          c.append.ensures.home_writes c.append.ensures.away_writes c.in_ok-append.ensures.home_flushes c.in_ok-append.ensures.away_flushes;
      room = flush_room g.D.Disk.seen g.D.Disk.is_image g.D.Disk.calls g.D.Disk.faults c.args.actor w v l m n c.self.invariant.few (ap (λ o. o.items) c.append.ensures.calls) c.count.ensures.home c.count.ensures.away c.count.ensures.calls a
          c.append.ensures.home_writes c.append.ensures.away_writes c.in_ok-append.ensures.home_flushes c.in_ok-append.ensures.away_flushes (promised w) (promised v) takes c.self.invariant.room (omega (arith, most, more));
      brief = flush_brief g.D.Disk.seen g.D.Disk.is_image g.D.Disk.calls g.D.Disk.faults c.args.actor w v l m n c.self.invariant.few (ap (λ o. o.items) c.append.ensures.calls) c.count.ensures.home c.count.ensures.away c.count.ensures.calls a
          c.append.ensures.home_writes c.append.ensures.away_writes c.in_ok-append.ensures.home_flushes c.in_ok-append.ensures.away_flushes c.self.invariant.brief
          (c.has_failed.ensures.fine c.if-has_failed.false).0 (c.has_failed.ensures.fine c.if-has_failed.false).1 c.append.ensures.home_number c.append.ensures.away_number;
    }

pub invariant_of-self : goal.invariant_of-self
invariant_of-self g c =
    let w = c.self.inside.state in
    let l = c.self.inside.logs in
    let m = c.append.new.self in
    record {
      few = ap (λ (o : Reserved DiskCalls). length o.items) c.append.ensures.calls ∙ c.self.invariant.few;
      room = subst (HasPlaces (promised w)) (sym c.append.ensures.calls) c.self.invariant.room;
      brief = failed_brief g.D.Disk.seen g.D.Disk.is_image g.D.Disk.calls g.D.Disk.faults w l m (ap (λ (o : Reserved DiskCalls). o.items) c.append.ensures.calls) c.in_err-append.ensures.failed c.self.invariant.brief;
    }

pub returns-clause-disks : goal.returns-clause-disks
returns-clause-disks g c =
    let w = c.self.inside.state in
    let v = c.flush.new.self in
    let l = c.self.inside.logs in
    let m = c.append.new.self in
    let n = c.count.new.self in
    let late : is_durable w ≡ false = sym c.is_durable.ensures ∙ c.if-is_durable.false in
    let a : Adds c.args.actor true [] [] w v = subst (λ (u : World). Adds c.args.actor true [] [] w u) (sym c.flush.ensures) (adds_flush c.args.actor w late) in
    subst (λ (o : Held _). Goes g.D.Disk.seen g.D.Disk.is_image g.D.Disk.calls g.D.Disk.faults o (held_of v n)) c.self.view_is
    (flush_goes g.D.Disk.seen g.D.Disk.is_image g.D.Disk.calls g.D.Disk.faults c.args.actor w v l m n c.self.invariant.few (ap (λ o. o.items) c.append.ensures.calls) c.count.ensures.home c.count.ensures.away c.count.ensures.calls a
    c.append.ensures.home_writes c.append.ensures.away_writes c.in_ok-append.ensures.home_flushes c.in_ok-append.ensures.away_flushes)

pub returns-clause-adds : goal.returns-clause-adds
returns-clause-adds g c =
    let w = c.self.inside.state in
    let v = c.flush.new.self in
    let l = c.self.inside.logs in
    let m = c.append.new.self in
    let n = c.count.new.self in
    let late : is_durable w ≡ false = sym c.is_durable.ensures ∙ c.if-is_durable.false in
    let a : Adds c.args.actor true [] [] w v = subst (λ (u : World). Adds c.args.actor true [] [] w u) (sym c.flush.ensures) (adds_flush c.args.actor w late) in
    subst (λ (o : Held _). AddsEntries c.args.actor o (held_of v n)) c.self.view_is
    (flush_adds g.D.Disk.seen g.D.Disk.is_image g.D.Disk.calls g.D.Disk.faults c.args.actor w v l m n c.self.invariant.few (ap (λ o. o.items) c.append.ensures.calls) c.count.ensures.home c.count.ensures.away c.count.ensures.calls a
    c.append.ensures.home_writes c.append.ensures.away_writes c.in_ok-append.ensures.home_flushes c.in_ok-append.ensures.away_flushes
    (flush_brief g.D.Disk.seen g.D.Disk.is_image g.D.Disk.calls g.D.Disk.faults c.args.actor w v l m n c.self.invariant.few (ap (λ o. o.items) c.append.ensures.calls) c.count.ensures.home c.count.ensures.away c.count.ensures.calls a
    c.append.ensures.home_writes c.append.ensures.away_writes c.in_ok-append.ensures.home_flushes c.in_ok-append.ensures.away_flushes c.self.invariant.brief
    (c.has_failed.ensures.fine c.if-has_failed.false).0 (c.has_failed.ensures.fine c.if-has_failed.false).1 c.append.ensures.home_number c.append.ensures.away_number))

pub returns-then-has_failed-clause-adds : goal.returns-then-has_failed-clause-adds
returns-then-has_failed-clause-adds g c = adds_same _ _ refl

pub returns-then-is_durable-clause-adds : goal.returns-then-is_durable-clause-adds
returns-then-is_durable-clause-adds g c = adds_same _ _ refl

pub returns-then-has_failed-clause-order : goal.returns-then-has_failed-clause-order
returns-then-has_failed-clause-order g c fine = absurd (fine (subst (λ (o : Held _). HasFailed o) c.self.view_is (c.has_failed.ensures.failed c.if-has_failed.true)))

pub returns-then-has_failed-clause-due : goal.returns-then-has_failed-clause-due
returns-then-has_failed-clause-due g c fine = absurd (fine (subst (λ (o : Held _). HasFailed o) c.self.view_is (c.has_failed.ensures.failed c.if-has_failed.true)))

pub returns-then-is_durable-clause-order : goal.returns-then-is_durable-clause-order
returns-then-is_durable-clause-order g c fine = none_stopped c.args.self.now c.args.self.now fine

pub returns-in_err-append-clause-order : goal.returns-in_err-append-clause-order
returns-in_err-append-clause-order g c fine =
    let m = c.append.new.self in
    subst (λ (o : Held _). WritesHomeFirst o.away m.home m.away) c.self.view_is c.append.ensures.order

pub returns-in_err-append-clause-due : goal.returns-in_err-append-clause-due
returns-in_err-append-clause-due g c =
    at_err c.from_residual.result (λ fine. subst (λ (o : Held _). is_durable o.world ≡ false) c.self.view_is (sym c.is_durable.ensures ∙ c.if-is_durable.false))

pub returns-clause-order : goal.returns-clause-order
returns-clause-order g c fine =
    let l = c.self.inside.logs in
    let m = c.append.new.self in
    let n = c.count.new.self in
    subst (λ (o : Held _). WritesHomeFirst o.away n.home n.away) c.self.view_is
    (subst (λ j. WritesHomeFirst l.away j n.away) (sym c.count.ensures.home) (subst (λ j. WritesHomeFirst l.away m.home j) (sym c.count.ensures.away) c.append.ensures.order))
