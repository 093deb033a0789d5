use Rattle.std.proofs.Common.{ap, ◌∙◌}
use Rattle.queue_rows.specs.Tables.{after}
use Rattle.queue_rows.specs.declared.tables.Tables.{Tables}
use Rattle.message_store.specs.Kept.{Kept}
use Rattle.message_store.specs.Stored.{Stored}
use Rattle.message_store.proofs.prepared_store.PreparedStore.apply_opened.Goals as goal

pub returns : goal.returns
returns c =
    let tables = c.open-open.ensures.held ∙ ap (λ (k : Kept). k.tables) c.replace-kept.ensures.value ∙ ap (λ (s : Stored). s.tables) c.self.view_is in
    c.close-kept.ensures.tables ∙ c.apply.ensures ∙ ap (λ (t : Tables). after t c.args.commit) tables
