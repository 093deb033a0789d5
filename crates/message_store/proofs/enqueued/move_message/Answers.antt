use Rattle.std.proofs.Common.{◌<◌, length, sym}
use Rattle.message_index.proofs.FoundLemmas.{holds_by_its_id}
use Rattle.message_store.proofs.enqueued.move_message.Goals as goal

pub move_to-requires : goal.move_to-requires
move_to-requires c = holds_by_its_id (λ m. length m.slots < c.args.slots) c.args.opened.now.messages.items c.args.id c.in-Some.message.now (sym c.in-Some.ensures) c.requires
