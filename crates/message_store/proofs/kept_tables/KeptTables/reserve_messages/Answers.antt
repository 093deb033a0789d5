use Rattle.std.proofs.Common.{ℕ, ◌≤◌, subst}
use Rattle.message_store.specs.Beside.{room_beside}
use Rattle.message_store.specs.Room.{Room}
use Rattle.message_store.specs.declared.beside.Beside.{Beside}
use Rattle.message_store.proofs.MessageLemmas.{room_of_messages, slots_of_messages}
use Rattle.message_store.proofs.ReadyLemmas.{are_ready}
use Rattle.message_store.proofs.kept_tables.KeptTables.reserve_messages.Goals as goal

pub returns-clause-prepared : goal.returns-clause-prepared
returns-clause-prepared c =
    let t = c.self.inside.tables in
    let old : Beside = c.self.inside.beside in
    let cs = c.args.changes.now in
    let room : Room = room_beside t (record old { index = c.reserve.new.self }) in
    let messages = subst (λ (n : ℕ). n ≤ c.reserve.new.self.room) c.puts_of-count.ensures c.in_ok-reserve.ensures.ok in
    are_ready t room cs c.requires.numbers
    (room_of_messages room cs c.requires.messages messages)
    (slots_of_messages t.messages cs cs room.slots c.requires.messages)
