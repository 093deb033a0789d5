use Rattle.std.proofs.Common.{◌==◌, sym, ◌∙◌}
use Rattle.open_rows.proofs.FindLemmas.{find-at_position, find-no_position}
use Rattle.message_index.proofs.MessageLemmas.{position_in_index}
use Rattle.message_index.proofs.found.find.Goals as goal

pub returns-in_err-at : goal.returns-in_err-at
returns-in_err-at c =
    let id = c.args.id in
    let ms = c.args.messages.now in
    let none = sym (position_in_index id ms c.args.index.now c.requires) ∙ sym c.in_err-at.ensures.first in
    rw c.from_residual.ensures (sym (find-no_position (λ m. m.id == id) ms none))

pub returns : goal.returns
returns c =
    let id = c.args.id in
    let ms = c.args.messages.now in
    let there = sym (position_in_index id ms c.args.index.now c.requires) ∙ sym c.in_ok-at.ensures.first in
    c.get.ensures ∙ sym (find-at_position (λ m. m.id == id) ms c.in_ok-at.at there)
