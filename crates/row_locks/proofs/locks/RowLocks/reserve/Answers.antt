use Rattle.std.proofs.Common.{ℕ, slice_index_or, ◌∙◌, ap, arith}
use Rattle.row_locks.specs.Entries.{no_entries, unranked}
use Rattle.row_locks.specs.Slots.{hold_of, room_of}
use Rattle.row_locks.proofs.GroupedLemmas.{grouped_prepared, grouped_reserved}
use Rattle.row_locks.proofs.SoundLemmas.{same_sound, same_spare, same_marks, changes_nothing, reserved_sound, reserved_told, given}
use Rattle.row_locks.proofs.locks.RowLocks.reserve.Goals as goal

pub invariant_of-self : goal.invariant_of-self
invariant_of-self c =
    let l = c.self.inside in
    let p = c.prepare.ensures in (
      same_sound l.sessions.items c.prepare.new.tables.items (hold_of l.slots) (hold_of c.prepare.new.slots) l.spare (room_of l.slots) (room_of c.prepare.new.slots) c.self.invariant.0 (λ s. ap unranked (p.same s)) p.spare p.bound p.holds p.room,
      grouped_prepared l.sessions.items c.prepare.new.tables.items l.groups c.prepare.new.groups l.spare c.self.invariant.1 p.same p.cells p.group_holds p.group_room,
    )

pub returns-in_err-prepare-clause-err : goal.returns-in_err-prepare-clause-err
returns-in_err-prepare-clause-err c =
    given c.from_residual.result (rw (← c.self.view_is) (same_spare c.self.inside.sessions.items c.prepare.new.tables.items (λ s. ap unranked (c.prepare.ensures.same s)) c.args.session))

pub returns-in_err-prepare-clause-marks : goal.returns-in_err-prepare-clause-marks
returns-in_err-prepare-clause-marks c = rw (← c.self.view_is) (same_marks c.self.inside.sessions.items c.prepare.new.tables.items (λ s. ap unranked (c.prepare.ensures.same s)))

pub returns-in_err-prepare-clause-rest : goal.returns-in_err-prepare-clause-rest
returns-in_err-prepare-clause-rest c = rw (← c.self.view_is) (changes_nothing c.self.inside.sessions.items c.prepare.new.tables.items c.args.session (λ s. ap unranked (c.prepare.ensures.same s)))

pub invariant_of-self-in_err-reserve_at : goal.invariant_of-self-in_err-reserve_at
invariant_of-self-in_err-reserve_at c =
    let l = c.self.inside in
    let p = c.prepare.ensures in
    let is = c.in_err-reserve_at.ensures.err in
    rw is (
      same_sound l.sessions.items c.prepare.new.tables.items (hold_of l.slots) (hold_of c.prepare.new.slots) l.spare (room_of l.slots) (room_of c.prepare.new.slots) c.self.invariant.0 (λ s. ap unranked (p.same s)) p.spare p.bound p.holds p.room,
      grouped_prepared l.sessions.items c.prepare.new.tables.items l.groups c.prepare.new.groups l.spare c.self.invariant.1 p.same p.cells p.group_holds p.group_room,
    )

pub returns-in_err-reserve_at-clause-marks : goal.returns-in_err-reserve_at-clause-marks
returns-in_err-reserve_at-clause-marks c =
    let same = λ (s : ℕ). ap (λ tables. unranked (slice_index_or tables s no_entries)) c.in_err-reserve_at.ensures.err ∙ ap unranked (c.prepare.ensures.same s) in
    rw (← c.self.view_is) (same_marks c.self.inside.sessions.items c.reserve_at.new.tables.items same)

pub returns-in_err-reserve_at-clause-rest : goal.returns-in_err-reserve_at-clause-rest
returns-in_err-reserve_at-clause-rest c =
    let same = λ (s : ℕ). ap (λ tables. unranked (slice_index_or tables s no_entries)) c.in_err-reserve_at.ensures.err ∙ ap unranked (c.prepare.ensures.same s) in
    rw (← c.self.view_is) (changes_nothing c.self.inside.sessions.items c.reserve_at.new.tables.items c.args.session same)

pub invariant_of-self-2 : goal.invariant_of-self-2
invariant_of-self-2 c =
    let l = c.self.inside in
    let p = c.prepare.ensures in
    let sound =
    same_sound l.sessions.items c.prepare.new.tables.items (hold_of l.slots) (hold_of c.prepare.new.slots) l.spare (room_of l.slots) (room_of c.prepare.new.slots) c.self.invariant.0 (λ s. ap unranked (p.same s)) p.spare p.bound p.holds
    p.room in
    let grouped =
    grouped_prepared l.sessions.items c.prepare.new.tables.items l.groups c.prepare.new.groups l.spare c.self.invariant.1 p.same p.cells p.group_holds p.group_room in (
      reserved_sound c.prepare.new.tables.items c.reserve_at.new.tables.items (hold_of c.prepare.new.slots) l.spare c.in-Some.more (room_of c.prepare.new.slots) c.args.session sound
          c.in_ok-prepare.ensures.there c.in_ok-reserve_at.ensures.ok (omega arith) c.in_ok-prepare.ensures.ok,
      grouped_reserved c.prepare.new.tables.items c.reserve_at.new.tables.items c.prepare.new.groups l.spare c.in-Some.more c.args.session grouped
          c.in_ok-reserve_at.ensures.ok c.in_ok-prepare.ensures.ok_groups,
    )

pub returns-clause-room : goal.returns-clause-room
returns-clause-room c =
    let told =
    reserved_told c.prepare.new.tables.items c.self.inside.sessions.items c.reserve_at.new.tables.items c.args.session (λ s. ap unranked (c.prepare.ensures.same s)) c.in_ok-prepare.ensures.there c.in_ok-reserve_at.ensures.ok in
    rw (← c.self.view_is) told.0

pub returns-clause-marks : goal.returns-clause-marks
returns-clause-marks c =
    let told =
    reserved_told c.prepare.new.tables.items c.self.inside.sessions.items c.reserve_at.new.tables.items c.args.session (λ s. ap unranked (c.prepare.ensures.same s)) c.in_ok-prepare.ensures.there c.in_ok-reserve_at.ensures.ok in
    rw (← c.self.view_is) told.1

pub returns-clause-rest : goal.returns-clause-rest
returns-clause-rest c =
    let told =
    reserved_told c.prepare.new.tables.items c.self.inside.sessions.items c.reserve_at.new.tables.items c.args.session (λ s. ap unranked (c.prepare.ensures.same s)) c.in_ok-prepare.ensures.there c.in_ok-reserve_at.ensures.ok in
    rw (← c.self.view_is) told.2
