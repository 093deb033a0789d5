use Rattle.std.proofs.Common.{◌≡◌, inl, ℕ, ◌+◌, ◌++◌, ◌∷◌, [], ◌≤◌, List, length, Some, sym, ◌∙◌, ap, subst, arith}
use Rattle.std.proofs.lemmas.List.{length_push}
use Rattle.aq_disk.specs.Disk.{EachImage}
use Rattle.aq_disk.proofs.Moments.{each_here}
use Rattle.redo_journal.specs.Journal.{frame, journal}
use Rattle.redo_journal.specs.Crash.{IsAtRest, StandsForEither, contents_in, with_bodies, with_frame}
use Rattle.redo_journal.specs.Journaled.{Journaled, room_for, bodies_as, Rests}
use Rattle.redo_journal.specs.declared.frame.Active.{Active}
use Rattle.redo_journal.proofs.Blocks.{length-frame}
use Rattle.redo_journal.proofs.Grow.{contents_same}
use Rattle.redo_journal.proofs.Room.{frame_within, room_least}
use Rattle.redo_journal.proofs.journal.Journal.append.Goals as goal

pub returns-then-is_empty-clause-crash : goal.returns-then-is_empty-clause-crash
returns-then-is_empty-clause-crash g c bytes told m rests =
    let disk = g.D.Disk in
    let j = c.args.self.now in
    let at = rests.disk bytes told in
    each_here (disk.calls j.disk) (disk.is_image j.disk) (StandsForEither (contents_in m) (with_bodies j.queued (contents_in m)))
    (λ image left. inl (contents_same m image (ap journal (at.settled image left) ∙ at.reads)))

pub put_queued-requires-clause-room : goal.put_queued-requires-clause-room
put_queued-requires-clause-room g c =
    omega (arith, ap (λ l. length (frame (bodies_as l))) c.deref.ensures.value, frame_within (bodies_as c.self.inside.queued.items), c.self.invariant.needs, c.self.invariant.room)

pub invariant_of-self : goal.invariant_of-self
invariant_of-self g c =
    let bodies = bodies_as c.deref.result.now in
    let long : c.len.result ≡ length c.put_queued.new.room.items = c.len.ensures ∙ c.put_queued.new.room.ok.0 in
    let least : 9 ≤ c.len.result = omega (arith, long, ap length c.put_queued.ensures.room, length-frame bodies) in
    record {
      area = record { header = c.self.invariant.area.header; version = omega (arith, c.self.invariant.area.version); limit = omega (arith, long, c.in-Ok.ensures.limit) };
      few = omega (arith, least, c.self.invariant.few);
      needs = sym (ap (λ l. room_for (bodies_as l)) c.retire.ensures);
      room = omega (arith, room_least (bodies_as c.self.inside.queued.items), c.self.invariant.needs, c.self.invariant.room, c.put_queued.ensures.capacity);
      place = λ fine bytes told. omega (arith, long, c.in-Ok.ensures.place bytes told);
    }

pub returns-in-Ok-clause-ok : goal.returns-in-Ok-clause-ok
returns-in-Ok-clause-ok g c bytes told m some rests =
    let disk = g.D.Disk in
    let inside = c.self.inside in
    let now = c.args.self.now in
    let r = subst (λ (j : Journaled g.row.D.Denot). Rests disk.seen disk.is_image disk.calls j m) (sym c.self.view_is) rests in
    let told_inside = subst (λ (j : Journaled g.row.D.Denot). disk.seen j.disk ≡ Some bytes) (sym c.self.view_is) told in
    let queue : bodies_as c.deref.result.now ≡ now.queued = ap bodies_as c.deref.ensures.value ∙ ap (λ (j : Journaled g.row.D.Denot). j.queued) c.self.view_is in
    let long : c.len.result ≡ length (frame now.queued) = c.len.ensures ∙ c.put_queued.new.room.ok.0 ∙ ap length c.put_queued.ensures.room ∙ ap (λ l. length (frame l)) queue in
    let gate = ap (λ (a : Active). a.gate) r.active in
    let counted : length (m.frames ++ record { offset = m.active.gate; bodies = now.queued } ∷ []) ≡ length m.frames + 1 = length_push m.frames (record { offset = m.active.gate; bodies = now.queued }) in
    record {
      fine = r.fine;
      version = r.version;
      active = ap (λ (a : Active). record { side = a.side; root = a.root; gate = a.gate + c.len.result }) r.active ∙ ap (λ (n : ℕ). record { side = m.active.side; root = m.active.root; gate = m.active.gate + n }) long;
      count = omega (arith, r.count, counted);
      disk = λ new told_new. subst (λ (q : List (List ℕ)). IsAtRest (with_frame q m) new (disk.is_image c.put_queued.new.disk (disk.calls c.put_queued.new.disk))) queue
          (c.in-Ok.ensures.rests new told_new bytes told_inside m gate (r.disk bytes told_inside));
    }

pub returns-in-Ok-clause-crash : goal.returns-in-Ok-clause-crash
returns-in-Ok-clause-crash g c bytes told m rests =
    let disk = g.D.Disk in
    let new = c.put_queued.new.disk in
    let r = subst (λ (j : Journaled g.row.D.Denot). Rests disk.seen disk.is_image disk.calls j m) (sym c.self.view_is) rests in
    let told_inside = subst (λ (j : Journaled g.row.D.Denot). disk.seen j.disk ≡ Some bytes) (sym c.self.view_is) told in
    let gate = ap (λ (a : Active). a.gate) r.active in
    let each = c.in-Ok.ensures.crash bytes told_inside m gate (r.disk bytes told_inside) in
    subst (λ (j : Journaled g.row.D.Denot). EachImage (disk.calls j.disk) (disk.calls new) (disk.is_image new) (StandsForEither (contents_in m) (with_bodies j.queued (contents_in m)))) c.self.view_is
    (subst (λ l. EachImage (disk.calls c.self.inside.disk) (disk.calls new) (disk.is_image new) (StandsForEither (contents_in m) (with_bodies (bodies_as l) (contents_in m)))) c.deref.ensures.value each)

pub returns-in-Err-clause-crash : goal.returns-in-Err-clause-crash
returns-in-Err-clause-crash g c bytes told m rests =
    let disk = g.D.Disk in
    let new = c.put_queued.new.disk in
    let r = subst (λ (j : Journaled g.row.D.Denot). Rests disk.seen disk.is_image disk.calls j m) (sym c.self.view_is) rests in
    let told_inside = subst (λ (j : Journaled g.row.D.Denot). disk.seen j.disk ≡ Some bytes) (sym c.self.view_is) told in
    let gate = ap (λ (a : Active). a.gate) r.active in
    let each = c.in-Err.ensures.crash bytes told_inside m gate (r.disk bytes told_inside) in
    subst (λ (j : Journaled g.row.D.Denot). EachImage (disk.calls j.disk) (disk.calls new) (disk.is_image new) (StandsForEither (contents_in m) (with_bodies j.queued (contents_in m)))) c.self.view_is
    (subst (λ l. EachImage (disk.calls c.self.inside.disk) (disk.calls new) (disk.is_image new) (StandsForEither (contents_in m) (with_bodies (bodies_as l) (contents_in m)))) c.deref.ensures.value each)
