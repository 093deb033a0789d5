use Rattle.std.proofs.Common.{ap, sym, ◌∙◌}
use Rattle.queue_rows.specs.Rows.{changed_at}
use Rattle.message_index.proofs.MessageLemmas.{edit_is_changed, position_in_index}
use Rattle.message_index.proofs.indexed_messages.edit_slot.Goals as goal

pub returns-in-Some-clause-rows : goal.returns-in-Some-clause-rows
returns-in-Some-clause-rows g c =
    let change = g.E.Edit.edited c.args.edit in
    let ms = c.args.rows.now in
    let there = c.in-Some.ensures.first ∙ position_in_index c.args.id ms c.args.index.now c.requires.indexed.ids in
    c.edit_slot_at.ensures.rows ∙ edit_is_changed ms c.in-Some.at change ∙ ap (λ o. changed_at change o ms) there

pub returns-in_default-clause-rows : goal.returns-in_default-clause-rows
returns-in_default-clause-rows g c =
    let change = g.E.Edit.edited c.args.edit in
    let ms = c.args.rows.now in
    let none = sym c.in_default.is ∙ c.position.ensures.first ∙ position_in_index c.args.id ms c.args.index.now c.requires.indexed.ids in
    ap (λ o. changed_at change o ms) none
