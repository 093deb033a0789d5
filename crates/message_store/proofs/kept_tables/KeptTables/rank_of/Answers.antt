use Rattle.std.proofs.Common.{◌==◌, ap, ◌∙◌}
use Rattle.std.specs.Prelude.{position}
use Rattle.message_store.specs.Kept.{Kept}
use Rattle.message_index.proofs.MessageLemmas.{position_in_index}
use Rattle.message_store.proofs.kept_tables.KeptTables.rank_of.Goals as goal

pub returns : goal.returns
returns c =
    let id = c.args.id in
    let k = c.self.inside in
    c.position.ensures.first ∙ position_in_index id k.tables.messages k.beside.index c.self.invariant.0 ∙ ap (λ (k : Kept). position (λ m. m.id == id) k.tables.messages) c.self.view_is
