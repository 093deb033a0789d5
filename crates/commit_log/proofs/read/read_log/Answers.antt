use Rattle.std.proofs.Common.{sym, subst}
use Rattle.std.specs.Prelude.{Err}
use Rattle.redo_journal.specs.Mount.{disk_in as disk_in_mount, mounted_as}
use Rattle.commit_log.specs.Mounting.{IsUnwritten}
use Rattle.commit_log.proofs.Mounting.{recovers}
use Rattle.commit_log.proofs.Reading.{read_by, refused_mount, refused_read, unwritten}
use Rattle.commit_log.proofs.read.read_log.Goals as goal

pub returns-in-Err-clause-refused : goal.returns-in-Err-clause-refused
returns-in-Err-clause-refused g c =
    let k = c.in-Err.ensures in
    let f = c.fault_of.ensures in
    refused_mount g.D.Disk c.mount_recovers.ensures c.args.disk c.fault_of.result c.in-Err.fault f.damaged f.disk f.fault k.damaged k.crash k.earlier k.later k.fault k.no_fault

pub returns-in-Err-clause-unwritten : goal.returns-in-Err-clause-unwritten
returns-in-Err-clause-unwritten g c =
    subst (λ d. IsUnwritten g.D.Disk c.args.disk d) (sym c.fault_of.ensures.disk) (unwritten g.D.Disk c.args.disk (disk_in_mount c.in-Err.fault) c.in-Err.ensures.crash)

pub returns-in-Ok-recover-clause-read : goal.returns-in-Ok-recover-clause-read
returns-in-Ok-recover-clause-read g c =
    let k = c.in-Ok.ensures in
    let r = c.in-Ok-recover.ensures in
    read_by g.D.Disk c.journal_recovers.ensures c.frames_lead.ensures c.mount_recovers.ensures c.args.disk c.in-Ok.mounted.0 c.in-Ok.mounted.1 c.version.result c.in-Ok-recover.store.tables (sym c.version.ensures)
    r.tables r.sound k.reads k.rests k.bytes k.empty k.unfailed k.crash k.earlier k.later k.fine

pub returns-in-Ok-recover-clause-unwritten : goal.returns-in-Ok-recover-clause-unwritten
returns-in-Ok-recover-clause-unwritten g c = unwritten g.D.Disk c.args.disk c.in-Ok.mounted.0.disk c.in-Ok.ensures.crash

pub returns-in-Err-Damaged-clause-refused : goal.returns-in-Err-Damaged-clause-refused
returns-in-Err-Damaged-clause-refused g c =
    let k = c.in-Ok.ensures in
    refused_read g.D.Disk c.mount_recovers.ensures c.args.disk _ c.in-Ok.mounted.0 c.into_disk.ensures (λ none. none)
    (λ bytes told. recovers c.journal_recovers.ensures bytes c.version.result (mounted_as c.in-Ok.mounted.0 c.in-Ok.mounted.1) (Err c.in-Err-Damaged.at) (k.reads bytes told) (sym c.version.ensures)
    (rw c.in-Err-Damaged.field-0-is at c.in-Err-Damaged.ensures.damaged)) k.crash k.earlier k.later k.fine

pub returns-in-Err-Damaged-clause-unwritten : goal.returns-in-Err-Damaged-clause-unwritten
returns-in-Err-Damaged-clause-unwritten g c =
    subst (λ d. IsUnwritten g.D.Disk c.args.disk d) (sym c.into_disk.ensures) (unwritten g.D.Disk c.args.disk c.in-Ok.mounted.0.disk c.in-Ok.ensures.crash)

pub returns-in-Err-Memory-clause-refused : goal.returns-in-Err-Memory-clause-refused
returns-in-Err-Memory-clause-refused g c =
    let k = c.in-Ok.ensures in
    refused_read g.D.Disk c.mount_recovers.ensures c.args.disk _ c.in-Ok.mounted.0 c.into_disk-in-Err-Memory.ensures (λ none. none) (λ bytes told. tt) k.crash k.earlier k.later k.fine

pub returns-in-Err-Memory-clause-unwritten : goal.returns-in-Err-Memory-clause-unwritten
returns-in-Err-Memory-clause-unwritten g c =
    subst (λ d. IsUnwritten g.D.Disk c.args.disk d) (sym c.into_disk-in-Err-Memory.ensures) (unwritten g.D.Disk c.args.disk c.in-Ok.mounted.0.disk c.in-Ok.ensures.crash)
