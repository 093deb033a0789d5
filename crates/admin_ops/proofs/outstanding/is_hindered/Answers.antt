use Rattle.std.proofs.Common.{ap, sym, ◌∙◌}
use Rattle.admin_ops.specs.Shown.{is_hindered_by}
use Rattle.admin_ops.proofs.outstanding.is_hindered.Goals as goal

pub returns-in-RemoveSubscriber : goal.returns-in-RemoveSubscriber
returns-in-RemoveSubscriber g c =
    c.is_subscriber_busy.ensures
    ∙ ap (is_hindered_by (g.T.MessageTables.tables c.args.store.now) c.args.work) (sym c.in-RemoveSubscriber.is)
