use Rattle.std.proofs.Common.{◌≡◌, Ok, option_copied, ap, sym, ◌∙◌}
use Rattle.std.proofs.lemmas.Result.{IfOk-weaker}
use Rattle.queue_rows.specs.Administration.{administered}
use Rattle.queue_rows.specs.Catalog.{judged}
use Rattle.admin_ops.specs.Meaning.{HasMeaning, MeansToAdminister}
use Rattle.admin_ops.proofs.Meanings.{administers, refuses, refusal_is_plain}
use Rattle.admin_ops.proofs.effect.admin.Goals as goal

pub returns-in-Ok-clause-means : goal.returns-in-Ok-clause-means
returns-in-Ok-clause-means g c =
    let t = g.T.MessageTables.tables c.args.store.now in
    let sent = option_copied c.args.transit in
    let changes = c.in-Ok.changes in
    let so : judged t c.args.ask.now c.args.moment ≡ Ok changes = ap (λ t. judged t c.args.ask.now c.args.moment) (sym c.tables.ensures) ∙ c.in-Ok.ensures.changes in
    IfOk-weaker c.effect_of.result (HasMeaning (λ s. administered t s c.is_hindered.result (Ok changes)))
    (MeansToAdminister t c.args.db c.args.locks.now c.args.sessions.now sent c.args.ask.now c.args.moment)
    (λ e. administers t c.args.db c.args.locks.now c.args.sessions.now sent c.args.ask.now c.args.moment c.is_hindered.result (Ok changes) e c.is_hindered.ensures so)
    c.effect_of.ensures.means

pub returns-in-Err-Refused-clause-means : goal.returns-in-Err-Refused-clause-means
returns-in-Err-Refused-clause-means g c =
    let t = g.T.MessageTables.tables c.args.store.now in
    let told = rw c.in-Err-Refused.field-0-is at c.in-Err-Refused.ensures.refused in
    let so = ap (λ t. judged t c.args.ask.now c.args.moment) (sym c.tables.ensures) ∙ told in
    let is = rw c.in-Err-Refused.field-0-is at c.answered.ensures in
    refuses t c.args.db c.args.locks.now c.args.sessions.now (option_copied c.args.transit) c.args.ask.now c.args.moment _ c.answered.result so is

pub returns-in-Err-Refused-clause-plain : goal.returns-in-Err-Refused-clause-plain
returns-in-Err-Refused-clause-plain g c =
    let t = g.T.MessageTables.tables c.args.store.now in
    let told = rw c.in-Err-Refused.field-0-is at c.in-Err-Refused.ensures.refused in
    let so = ap (λ t. judged t c.args.ask.now c.args.moment) (sym c.tables.ensures) ∙ told in
    let is = rw c.in-Err-Refused.field-0-is at c.answered.ensures in
    refusal_is_plain t c.args.ask.now c.args.moment _ c.answered.result so is
