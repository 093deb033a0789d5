use Rattle.std.proofs.Common.{ap, ◌∙◌}
use Rattle.queue_rows.specs.Rows.{find_sub}
use Rattle.queue_rows.specs.Administration.{of_subscriber}
use Rattle.admin_ops.specs.Shown.{is_outstanding_by}
use Rattle.admin_ops.proofs.outstanding.is_subscriber_busy.Goals as goal

pub returns : goal.returns
returns g c =
    let queue = c.args.queue.now in
    c.is_outstanding.ensures
    ∙ ap (λ sub. is_outstanding_by (g.T.MessageTables.tables c.args.store.now) c.args.work (of_subscriber queue sub))
    (c.find_sub-sub.ensures ∙ ap (λ t. find_sub t queue c.args.name.now) c.tables.ensures)
