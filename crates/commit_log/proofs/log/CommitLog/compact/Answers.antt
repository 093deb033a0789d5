use Rattle.std.proofs.Common.{subst}
use Rattle.std.specs.Prelude.{IfOk}
use Rattle.redo_journal.specs.Journaled.{Journaled}
use Rattle.commit_log.specs.Compacting.{IsCompacted, KeepsTables, disk_compacted}
use Rattle.commit_log.proofs.Compaction.{if_compacted, keeps_tables}
use Rattle.commit_log.proofs.log.CommitLog.compact.Goals as goal

pub returns-clause-compacted : goal.returns-clause-compacted
returns-clause-compacted g c =
    let k = c.compact_into.ensures in
    subst (λ (j : Journaled g.row.D.Denot). IfOk c.compact_into.result (IsCompacted g.D.Disk c.args.tables.now j)) c.self.view_is
    (if_compacted g.D.Disk c.args.tables.now c.self.inside.journal c.contents_recover.ensures c.checkpoint_restores.ensures c.requires.sound c.compact_into.result k.bytes k.rests k.fine)

pub returns-clause-keeps : goal.returns-clause-keeps
returns-clause-keeps g c =
    let k = c.compact_into.ensures in
    subst (λ (j : Journaled g.row.D.Denot). KeepsTables g.D.Disk c.args.tables.now j (disk_compacted c.compact_into.result)) c.self.view_is
    (keeps_tables g.D.Disk c.args.tables.now c.self.inside.journal (disk_compacted c.compact_into.result) k.crash k.earlier k.later)
