use Rattle.std.proofs.Common.{sym, ◌∙◌}
use Rattle.message_index.proofs.RoomLemmas.{none_moved}
use Rattle.message_index.proofs.moved_rooms.slot_rooms.Goals as goal

pub returns-else-any_move : goal.returns-else-any_move
returns-else-any_move c =
    none_moved c.args.messages.now c.args.changes.now c.args.changes.now _ (sym c.any_move.ensures ∙ c.if-any_move.false)
