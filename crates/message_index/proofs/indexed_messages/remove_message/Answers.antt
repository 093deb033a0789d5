use Rattle.std.proofs.Common.{ap, sym, ◌∙◌}
use Rattle.queue_rows.specs.Rows.{removed_at}
use Rattle.message_index.proofs.MessageLemmas.{position_in_index}
use Rattle.message_index.proofs.indexed_messages.remove_message.Goals as goal

pub returns-in-Some-clause-rows : goal.returns-in-Some-clause-rows
returns-in-Some-clause-rows c =
    let ms = c.args.rows.now in
    let there = c.in-Some.ensures.first ∙ position_in_index c.args.id ms c.args.index.now c.requires.ids in
    c.remove_at.ensures.rows ∙ ap (removed_at ms) there

pub returns-in_default-clause-rows : goal.returns-in_default-clause-rows
returns-in_default-clause-rows c =
    let ms = c.args.rows.now in
    let none = sym c.in_default.is ∙ c.position.ensures.first ∙ position_in_index c.args.id ms c.args.index.now c.requires.ids in
    ap (removed_at ms) none
