use Rattle.std.proofs.Common.{subst}
use Rattle.redo_journal.specs.Broken.{IsDamagedAt}
use Rattle.redo_journal.specs.Journal.{outline_of}
use Rattle.redo_journal.specs.declared.read.ChainFault.{ChainFault}
use Rattle.redo_journal.proofs.Areas.{damage_begun}
use Rattle.redo_journal.proofs.mount.cause_of.Goals as goal

pub returns-in-Broken-clause-same : goal.returns-in-Broken-clause-same
returns-in-Broken-clause-same c bytes is damaged =
    damage_begun c.in-Broken.damage bytes is (subst (λ (fault : ChainFault). IsDamagedAt fault (outline_of bytes)) c.in-Broken.is damaged)
