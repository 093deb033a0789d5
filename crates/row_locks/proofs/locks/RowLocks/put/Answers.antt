use Rattle.std.proofs.Common.{ℕ, ◌<◌, Option, length, map, slice_index_or, ◌∙◌, ap, arith}
use Rattle.std.specs.Option.{option_map}
use Rattle.row_locks.specs.Groups.{class_of, count_of}
use Rattle.row_locks.specs.Entries.{no_entries, shown}
use Rattle.row_locks.specs.Slots.{hold_of, room_of}
use Rattle.row_locks.proofs.HolderLemmas.{alone_for}
use Rattle.row_locks.proofs.TableLemmas.{spare_there, none_held, table_with_room}
use Rattle.row_locks.proofs.SoundLemmas.{spare_below, free_for_all, put_sound, put_shown, told_set, shown_length}
use Rattle.row_locks.proofs.locks.RowLocks.put.Goals as goal

pub put_at-requires-clause-room : goal.put_at-requires-clause-room
put_at-requires-clause-room c =
    let l = c.self.inside in
    let some : 0 < (slice_index_or l.sessions.items c.args.session no_entries).spare = rw (← spare_there l.sessions.items c.args.session) (rw c.self.view_is c.requires.room) in
    omega (arith, some, spare_below l.sessions.items c.args.session, c.self.invariant.0.within, c.self.invariant.0.fits)

pub put_at-requires-clause-group_room : goal.put_at-requires-clause-group_room
put_at-requires-clause-group_room c =
    let l = c.self.inside in
    let some : 0 < (slice_index_or l.sessions.items c.args.session no_entries).spare = rw (← spare_there l.sessions.items c.args.session) (rw c.self.view_is c.requires.room) in
    omega (arith, some, spare_below l.sessions.items c.args.session, c.self.invariant.0.within, c.self.invariant.1.fits)

pub put_at-requires-clause-free : goal.put_at-requires-clause-free
put_at-requires-clause-free c =
    let l = c.self.inside in
    none_held l.sessions.items (hold_of l.slots) c.args.mark.id c.args.mark.slot c.self.invariant.0.slots
    (free_for_all l.sessions.items c.args.session c.args.mark (rw c.self.view_is c.requires.own) (rw c.self.view_is c.requires.free))

pub put_at-requires-clause-alone : goal.put_at-requires-clause-alone
put_at-requires-clause-alone c = alone_for c.self.inside.sessions.items c.args.session c.args.mark (rw c.self.view_is c.requires.free.group)

pub invariant_of-self : goal.invariant_of-self
invariant_of-self c =
    let l = c.self.inside in
    let some : 0 < (slice_index_or l.sessions.items c.args.session no_entries).spare = rw (← spare_there l.sessions.items c.args.session) (rw c.self.view_is c.requires.room) in
    let rank : Option ℕ = option_map (λ g. count_of l.groups.classes (class_of g)) c.args.mark.group in
    let index = rw c.put_at.ensures.put at c.put_at.ensures.index in (
      rw c.put_at.ensures.put (
          put_sound l.sessions.items (hold_of l.slots) (hold_of c.put_at.new.slots) l.spare (room_of l.slots) (room_of c.put_at.new.slots) c.args.session c.args.mark rank c.self.invariant.0
          (table_with_room l.sessions.items c.args.session some) some (rw c.self.view_is c.requires.free) index c.put_at.ensures.room
          ),
      record {
        index = c.put_at.ensures.grouped;
        ranked = c.put_at.ensures.ranked c.self.invariant.1.ranked;
        fits = omega (arith, c.self.invariant.1.fits, c.put_at.ensures.group_room);
      },
    )

pub returns-clause-marks : goal.returns-clause-marks
returns-clause-marks c =
    let l = c.self.inside in
    let some : 0 < (slice_index_or l.sessions.items c.args.session no_entries).spare = rw (← spare_there l.sessions.items c.args.session) (rw c.self.view_is c.requires.room) in
    let there : c.args.session < length (map shown l.sessions.items) = rw (shown_length l.sessions.items) (table_with_room l.sessions.items c.args.session some) in
    let rank : Option ℕ = option_map (λ g. count_of l.groups.classes (class_of g)) c.args.mark.group in
    let told = told_set (map shown l.sessions.items) (map shown c.put_at.new.tables.items) c.args.session _ (ap (map shown) c.put_at.ensures.put ∙ put_shown l.sessions.items c.args.session c.args.mark rank) there in
    rw (← c.self.view_is) told.0

pub returns-clause-room : goal.returns-clause-room
returns-clause-room c =
    let l = c.self.inside in
    let some : 0 < (slice_index_or l.sessions.items c.args.session no_entries).spare = rw (← spare_there l.sessions.items c.args.session) (rw c.self.view_is c.requires.room) in
    let there : c.args.session < length (map shown l.sessions.items) = rw (shown_length l.sessions.items) (table_with_room l.sessions.items c.args.session some) in
    let rank : Option ℕ = option_map (λ g. count_of l.groups.classes (class_of g)) c.args.mark.group in
    let told = told_set (map shown l.sessions.items) (map shown c.put_at.new.tables.items) c.args.session _ (ap (map shown) c.put_at.ensures.put ∙ put_shown l.sessions.items c.args.session c.args.mark rank) there in
    rw (← c.self.view_is) told.1

pub returns-clause-rest : goal.returns-clause-rest
returns-clause-rest c =
    let l = c.self.inside in
    let some : 0 < (slice_index_or l.sessions.items c.args.session no_entries).spare = rw (← spare_there l.sessions.items c.args.session) (rw c.self.view_is c.requires.room) in
    let there : c.args.session < length (map shown l.sessions.items) = rw (shown_length l.sessions.items) (table_with_room l.sessions.items c.args.session some) in
    let rank : Option ℕ = option_map (λ g. count_of l.groups.classes (class_of g)) c.args.mark.group in
    let told = told_set (map shown l.sessions.items) (map shown c.put_at.new.tables.items) c.args.session _ (ap (map shown) c.put_at.ensures.put ∙ put_shown l.sessions.items c.args.session c.args.mark rank) there in
    rw (← c.self.view_is) told.2
