use Rattle.std.proofs.Common.{sym, subst}
use Rattle.message_store.specs.Beside.{room_beside}
use Rattle.message_index.specs.SlotRooms.{HasSlotRooms}
use Rattle.message_store.proofs.ReadyLemmas.{are_ready}
use Rattle.message_store.proofs.kept_tables.KeptTables.reserve_rows.Goals as goal

pub returns-clause-prepared : goal.returns-clause-prepared
returns-clause-prepared c =
    let t = c.self.inside.tables in
    let cs = c.args.changes.now in
    let slots = subst (HasSlotRooms t.messages cs cs) (sym c.reserve.ensures.slots) c.in_ok-self-inside.ensures in
    are_ready t (room_beside t c.reserve.new.self) cs c.requires c.in_ok-reserve.ensures.room slots
