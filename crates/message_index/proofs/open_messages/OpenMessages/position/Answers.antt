use Rattle.std.proofs.Common.{◌==◌, ap, ◌∙◌}
use Rattle.std.specs.Prelude.{position}
use Rattle.queue_rows.specs.declared.rows.MsgRow.{MsgRow}
use Rattle.open_rows.specs.Rows.{Rows}
use Rattle.message_index.proofs.MessageLemmas.{position_in_index}
use Rattle.message_index.proofs.open_messages.OpenMessages.position.Goals as goal

pub returns-clause-first : goal.returns-clause-first
returns-clause-first c =
    let id = c.args.id in
    c.position.ensures.first ∙ position_in_index id c.self.inside.rows c.self.inside.index c.self.invariant.ids ∙ ap (λ (r : Rows MsgRow). position (λ m. m.id == id) r.items) c.self.view_is
