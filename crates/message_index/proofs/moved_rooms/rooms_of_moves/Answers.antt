use Rattle.std.proofs.Common.{◌++◌, [], List, ℕ, append-nil, nat_eq, sym, subst}
use Rattle.std.specs.HashMap.{get}
use Rattle.std.proofs.lemmas.List.Elements.{All-rest}
use Rattle.queue_rows.specs.declared.change.Change.{Change}
use Rattle.message_index.specs.SlotRooms.{HasSlotRooms, TellsAdded}
use Rattle.message_index.proofs.RoomLemmas.{one_more}
use Rattle.message_index.proofs.moved_rooms.rooms_of_moves.Goals as goal

pub loop-change-preserved : goal.loop-change-preserved
loop-change-preserved c =
    let ms = c.args.messages.now in
    let all = c.args.changes.now in
    let rest = c.next.new.self in
    let rooms = c.loop-change.rooms.items in
    let More : List Change → Type 0 = λ cs. (later : List ℕ) → HasSlotRooms ms all cs later → HasSlotRooms ms all all (rooms ++ later) in
    let more = subst More c.in-Some.ensures.steps c.loop-change.invariant.more in
    record {
      more = one_more ms all _ rest rooms c.add_room.new.rooms.items c.in_ok-add_room.ensures more;
      told = All-rest (TellsAdded (get nat_eq c.in_ok-added.added) all) _ rest _ c.in-Some.ensures.steps c.loop-change.invariant.told;
    }

pub returns : goal.returns
returns c =
    let ms = c.args.messages.now in
    let all = c.args.changes.now in
    let rooms = c.loop-change.rooms.items in
    let Done : List Change → Type 0 = λ cs. HasSlotRooms ms all cs [] in
    let whole : HasSlotRooms ms all all (rooms ++ []) = c.loop-change.invariant.more [] (subst Done (sym c.in-None.ensures.steps.0) tt) in
    subst (HasSlotRooms ms all all) (append-nil rooms) whole
