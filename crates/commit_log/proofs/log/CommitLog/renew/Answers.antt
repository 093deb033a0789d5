use Rattle.std.proofs.Common.{◌∙◌, sym, subst}
use Rattle.redo_journal.specs.Journaled.{Journaled}
use Rattle.commit_log.specs.Mounting.{IsMounted}
use Rattle.commit_log.proofs.Renewing.{mounted_same}
use Rattle.commit_log.proofs.log.CommitLog.renew.Goals as goal

pub returns-then-version-eq-WRITTEN_VERSION-clause-mounted : goal.returns-then-version-eq-WRITTEN_VERSION-clause-mounted
returns-then-version-eq-WRITTEN_VERSION-clause-mounted g c disk read =
    subst (λ (k : Journaled g.row.D.Denot). IsMounted g.D.Disk disk c.args.store.tables k) (sym c.of.ensures)
    (mounted_same g.D.Disk disk c.args.store.tables c.args.journal read (sym c.version.ensures ∙ c.if-version-eq-WRITTEN_VERSION.true))

pub returns-in-Ok-clause-mounted : goal.returns-in-Ok-clause-mounted
returns-in-Ok-clause-mounted g c disk read =
    subst (λ (k : Journaled g.row.D.Denot). IsMounted g.D.Disk disk c.in-Ok.store.tables k) (sym c.of-in-Ok.ensures) (c.in-Ok.ensures.mounted disk read)
