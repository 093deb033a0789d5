use Rattle.std.proofs.Common.{◌<◌, ◌-◌, length, map, sym, ◌∙◌, ap, arith}
use Rattle.row_locks.specs.Entries.{shown}
use Rattle.row_locks.specs.Slots.{hold_of, room_of}
use Rattle.row_locks.proofs.GroupedLemmas.{grouped_emptied}
use Rattle.row_locks.proofs.PlaceLemmas.{unranked_at, unranked_length, unranked_shown}
use Rattle.row_locks.proofs.SoundLemmas.{unranked_sound, emptied_sound, emptied_shown, told_set, shown_length}
use Rattle.row_locks.proofs.locks.RowLocks.free_all.Goals as goal

pub free_all_at-requires-clause-index : goal.free_all_at-requires-clause-index
free_all_at-requires-clause-index c =
    let l = c.self.inside in (unranked_sound l.sessions.items c.leave_groups.new.tables.items (hold_of l.slots) l.spare (room_of l.slots) c.self.invariant.0 c.leave_groups.ensures.same).slots

pub invariant_of-self : goal.invariant_of-self
invariant_of-self c =
    let l = c.self.inside in
    let left = c.leave_groups.new.tables.items in
    let same = c.leave_groups.ensures.same in
    let there : c.args.session < length left = rw (unranked_length l.sessions.items left same) (omega arith) in
    let sound = unranked_sound l.sessions.items left (hold_of l.slots) l.spare (room_of l.slots) c.self.invariant.0 same in
    let freed = c.spare_at.ensures ∙ sym (ap (λ t. t.spare) (unranked_at l.sessions.items left same c.args.session)) in (
      rw freed (
          emptied_sound left c.free_all_at.new.tables.items (hold_of l.slots) (hold_of c.free_all_at.new.slots) l.spare (room_of l.slots) (room_of c.free_all_at.new.slots) c.args.session
          sound there c.free_all_at.ensures.none c.free_all_at.ensures.index c.free_all_at.ensures.room
          ),
      rw c.free_all_at.ensures.none (
          grouped_emptied l.sessions.items left l.groups c.leave_groups.new.groups l.spare (l.spare - c.spare_at.result) c.args.session c.self.invariant.1 same c.leave_groups.ensures.grouped c.leave_groups.ensures.out c.leave_groups.ensures.others there (omega arith) c.leave_groups.ensures.room
          ),
    )

pub returns-then-session-len-clause-none : goal.returns-then-session-len-clause-none
returns-then-session-len-clause-none c =
    let l = c.self.inside in
    let left = c.leave_groups.new.tables.items in
    let same = c.leave_groups.ensures.same in
    let there : c.args.session < length left = rw (unranked_length l.sessions.items left same) (omega arith) in
    let is = ap (map shown) c.free_all_at.ensures.none ∙ emptied_shown left c.args.session in
    let told = told_set (map shown left) (map shown c.free_all_at.new.tables.items) c.args.session _ is (rw (shown_length left) there) in
    told.0

pub returns-then-session-len-clause-room : goal.returns-then-session-len-clause-room
returns-then-session-len-clause-room c =
    let l = c.self.inside in
    let left = c.leave_groups.new.tables.items in
    let same = c.leave_groups.ensures.same in
    let there : c.args.session < length left = rw (unranked_length l.sessions.items left same) (omega arith) in
    let is = ap (map shown) c.free_all_at.ensures.none ∙ emptied_shown left c.args.session in
    let told = told_set (map shown left) (map shown c.free_all_at.new.tables.items) c.args.session _ is (rw (shown_length left) there) in
    told.1

pub returns-then-session-len-clause-rest : goal.returns-then-session-len-clause-rest
returns-then-session-len-clause-rest c =
    let l = c.self.inside in
    let left = c.leave_groups.new.tables.items in
    let same = c.leave_groups.ensures.same in
    let there : c.args.session < length left = rw (unranked_length l.sessions.items left same) (omega arith) in
    let is = ap (map shown) c.free_all_at.ensures.none ∙ emptied_shown left c.args.session in
    let told = told_set (map shown left) (map shown c.free_all_at.new.tables.items) c.args.session _ is (rw (shown_length left) there) in
    rw (← c.self.view_is) (rw (← unranked_shown l.sessions.items left same) told.2)
