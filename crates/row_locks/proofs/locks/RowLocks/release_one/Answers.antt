use Rattle.std.proofs.Common.{map, sym, ◌∙◌, ap}
use Rattle.row_locks.specs.Entries.{shown}
use Rattle.row_locks.specs.Slots.{hold_of, room_of}
use Rattle.row_locks.specs.declared.classes.Place.{Place}
use Rattle.row_locks.proofs.GroupedLemmas.{grouped_released}
use Rattle.row_locks.proofs.PlaceLemmas.{unranked_shown}
use Rattle.row_locks.proofs.TableLemmas.{held_there, own_slot}
use Rattle.row_locks.proofs.SoundLemmas.{unranked_sound, released_sound, released_shown, told_set, shown_length, released_none}
use Rattle.row_locks.proofs.locks.RowLocks.release_one.Goals as goal

pub leave_group-requires-clause-there : goal.leave_group-requires-clause-there
leave_group-requires-clause-there c =
    let l = c.self.inside in (held_there l.sessions.items (hold_of l.slots) c.args.id c.args.slot c.in-Some.hold c.self.invariant.0.slots c.in-Some.ensures.some).0

pub leave_group-requires-clause-within : goal.leave_group-requires-clause-within
leave_group-requires-clause-within c =
    let l = c.self.inside in (held_there l.sessions.items (hold_of l.slots) c.args.id c.args.slot c.in-Some.hold c.self.invariant.0.slots c.in-Some.ensures.some).1

pub release_at-requires-clause-index : goal.release_at-requires-clause-index
release_at-requires-clause-index c =
    let l = c.self.inside in (unranked_sound l.sessions.items c.leave_group.new.tables.items (hold_of l.slots) l.spare (room_of l.slots) c.self.invariant.0 c.leave_group.ensures.same).slots

pub invariant_of-self : goal.invariant_of-self
invariant_of-self c =
    let l = c.self.inside in
    let it = c.in-Some.hold in
    let left = c.leave_group.new.tables.items in
    let same = c.leave_group.ensures.same in
    let sound = unranked_sound l.sessions.items left (hold_of l.slots) l.spare (room_of l.slots) c.self.invariant.0 same in
    let there = held_there left (hold_of l.slots) c.args.id c.args.slot it sound.slots c.in-Some.ensures.some in
    let place : Place = record { session = it.session; at = it.at } in (
      released_sound left c.release_at.new.tables.items (hold_of l.slots) (hold_of c.release_at.new.slots) l.spare (room_of l.slots) (room_of c.release_at.new.slots) c.args.id c.args.slot it sound
          c.in-Some.ensures.some c.release_at.ensures.released c.release_at.ensures.index c.release_at.ensures.room,
      rw c.release_at.ensures.released (
          grouped_released l.sessions.items left l.groups c.leave_group.new.groups l.spare
          place c.self.invariant.1 same c.leave_group.ensures.grouped c.leave_group.ensures.out c.leave_group.ensures.others there.0 there.1 c.leave_group.ensures.room
          ),
    )

pub returns-in-Some-clause-marks : goal.returns-in-Some-clause-marks
returns-in-Some-clause-marks c =
    let l = c.self.inside in
    let it = c.in-Some.hold in
    let left = c.leave_group.new.tables.items in
    let same = c.leave_group.ensures.same in
    let sound = unranked_sound l.sessions.items left (hold_of l.slots) l.spare (room_of l.slots) c.self.invariant.0 same in
    let there = held_there left (hold_of l.slots) c.args.id c.args.slot it sound.slots c.in-Some.ensures.some in
    let is = ap (map shown) c.release_at.ensures.released ∙ released_shown left (hold_of l.slots) c.args.id c.args.slot it sound.slots c.in-Some.ensures.some in
    let told = told_set (map shown left) (map shown c.release_at.new.tables.items) it.session _ is (rw (shown_length left) there.0) in
    rw (← c.self.view_is) (rw (← unranked_shown l.sessions.items left same) (rw (← c.in-Some.ensures.own) told.0))

pub returns-in-Some-clause-room : goal.returns-in-Some-clause-room
returns-in-Some-clause-room c =
    let l = c.self.inside in
    let it = c.in-Some.hold in
    let left = c.leave_group.new.tables.items in
    let same = c.leave_group.ensures.same in
    let sound = unranked_sound l.sessions.items left (hold_of l.slots) l.spare (room_of l.slots) c.self.invariant.0 same in
    let there = held_there left (hold_of l.slots) c.args.id c.args.slot it sound.slots c.in-Some.ensures.some in
    let is = ap (map shown) c.release_at.ensures.released ∙ released_shown left (hold_of l.slots) c.args.id c.args.slot it sound.slots c.in-Some.ensures.some in
    let told = told_set (map shown left) (map shown c.release_at.new.tables.items) it.session _ is (rw (shown_length left) there.0) in
    rw (← c.self.view_is) (rw (← unranked_shown l.sessions.items left same) (rw (← c.in-Some.ensures.own) told.1))

pub returns-in-Some-clause-rest : goal.returns-in-Some-clause-rest
returns-in-Some-clause-rest c =
    let l = c.self.inside in
    let it = c.in-Some.hold in
    let left = c.leave_group.new.tables.items in
    let same = c.leave_group.ensures.same in
    let sound = unranked_sound l.sessions.items left (hold_of l.slots) l.spare (room_of l.slots) c.self.invariant.0 same in
    let there = held_there left (hold_of l.slots) c.args.id c.args.slot it sound.slots c.in-Some.ensures.some in
    let is = ap (map shown) c.release_at.ensures.released ∙ released_shown left (hold_of l.slots) c.args.id c.args.slot it sound.slots c.in-Some.ensures.some in
    let told = told_set (map shown left) (map shown c.release_at.new.tables.items) it.session _ is (rw (shown_length left) there.0) in
    rw (← c.self.view_is) (rw (← unranked_shown l.sessions.items left same) (rw (← c.in-Some.ensures.own) told.2))

pub returns-in_default-clause-marks : goal.returns-in_default-clause-marks
returns-in_default-clause-marks c =
    let l = c.self.inside in
    rw (← c.self.view_is) (sym (released_none c.args.id c.args.slot _ (sym (own_slot l.sessions.items (hold_of l.slots) c.args.id c.args.slot c.args.session c.self.invariant.0.slots) ∙ c.in_default.ensures.none)))
