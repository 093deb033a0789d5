use Rattle.std.proofs.Common.{◌<◌, length, map, sym, ◌∙◌, ap}
use Rattle.row_locks.specs.Entries.{shown}
use Rattle.row_locks.specs.Slots.{hold_of, room_of}
use Rattle.row_locks.proofs.GroupedLemmas.{grouped_kept}
use Rattle.row_locks.proofs.TableLemmas.{held_there, own_slot}
use Rattle.row_locks.proofs.SoundLemmas.{kept_sound, kept_shown, told_set, shown_length, kept_none}
use Rattle.row_locks.proofs.locks.RowLocks.keep.Goals as goal

pub invariant_of-self : goal.invariant_of-self
invariant_of-self c =
    let l = c.self.inside in
    let it = c.in-Some.hold in
    let there = held_there l.sessions.items (hold_of l.slots) c.args.mark.now.id c.args.mark.now.slot it c.self.invariant.0.slots c.in-Some.ensures.some in (
      kept_sound l.sessions.items c.keep_at.new.tables.items (hold_of l.slots) (hold_of c.keep_at.new.slots) l.spare (room_of l.slots) (room_of c.keep_at.new.slots) c.args.mark.now it c.self.invariant.0
          c.in-Some.ensures.some c.keep_at.ensures.kept c.keep_at.ensures.index c.keep_at.ensures.room,
      grouped_kept l.sessions.items c.keep_at.new.tables.items l.groups l.spare it.session it.at c.args.mark.now c.self.invariant.1 there.0 there.1 c.keep_at.ensures.kept,
    )

pub returns-in-Some-clause-marks : goal.returns-in-Some-clause-marks
returns-in-Some-clause-marks c =
    let l = c.self.inside in
    let there : c.in-Some.hold.session < length (map shown l.sessions.items) =
    rw (shown_length l.sessions.items) (held_there l.sessions.items (hold_of l.slots) c.args.mark.now.id c.args.mark.now.slot c.in-Some.hold c.self.invariant.0.slots c.in-Some.ensures.some).0 in
    let is = ap (map shown) c.keep_at.ensures.kept ∙ kept_shown l.sessions.items (hold_of l.slots) c.args.mark.now c.in-Some.hold c.self.invariant.0.slots c.in-Some.ensures.some in
    let told = told_set (map shown l.sessions.items) (map shown c.keep_at.new.tables.items) c.in-Some.hold.session _ is there in
    rw (← c.self.view_is) (rw (← c.in-Some.ensures.own) told.0)

pub returns-in-Some-clause-room : goal.returns-in-Some-clause-room
returns-in-Some-clause-room c =
    let l = c.self.inside in
    let there : c.in-Some.hold.session < length (map shown l.sessions.items) =
    rw (shown_length l.sessions.items) (held_there l.sessions.items (hold_of l.slots) c.args.mark.now.id c.args.mark.now.slot c.in-Some.hold c.self.invariant.0.slots c.in-Some.ensures.some).0 in
    let is = ap (map shown) c.keep_at.ensures.kept ∙ kept_shown l.sessions.items (hold_of l.slots) c.args.mark.now c.in-Some.hold c.self.invariant.0.slots c.in-Some.ensures.some in
    let told = told_set (map shown l.sessions.items) (map shown c.keep_at.new.tables.items) c.in-Some.hold.session _ is there in
    rw (← c.self.view_is) (rw (← c.in-Some.ensures.own) told.1)

pub returns-in-Some-clause-rest : goal.returns-in-Some-clause-rest
returns-in-Some-clause-rest c =
    let l = c.self.inside in
    let there : c.in-Some.hold.session < length (map shown l.sessions.items) =
    rw (shown_length l.sessions.items) (held_there l.sessions.items (hold_of l.slots) c.args.mark.now.id c.args.mark.now.slot c.in-Some.hold c.self.invariant.0.slots c.in-Some.ensures.some).0 in
    let is = ap (map shown) c.keep_at.ensures.kept ∙ kept_shown l.sessions.items (hold_of l.slots) c.args.mark.now c.in-Some.hold c.self.invariant.0.slots c.in-Some.ensures.some in
    let told = told_set (map shown l.sessions.items) (map shown c.keep_at.new.tables.items) c.in-Some.hold.session _ is there in
    rw (← c.self.view_is) (rw (← c.in-Some.ensures.own) told.2)

pub returns-in_default-clause-marks : goal.returns-in_default-clause-marks
returns-in_default-clause-marks c =
    let l = c.self.inside in
    rw (← c.self.view_is) (sym (kept_none c.args.mark.now _ (sym (own_slot l.sessions.items (hold_of l.slots) c.args.mark.now.id c.args.mark.now.slot c.args.session c.self.invariant.0.slots) ∙ c.in_default.ensures.none)))
