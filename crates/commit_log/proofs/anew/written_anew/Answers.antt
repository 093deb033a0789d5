use Rattle.std.proofs.Common.{◌∙◌, sym, subst}
use Rattle.queue_rows.specs.declared.tables.Tables.{Tables}
use Rattle.commit_log.specs.Mounting.{IsRead}
use Rattle.commit_log.proofs.Renewing.{IsPut, mounted_anew, refused_anew, refused_compact, refused_version}
use Rattle.commit_log.proofs.anew.written_anew.Goals as goal

pub returns-in-Err-clause-refused : goal.returns-in-Err-clause-refused
returns-in-Err-clause-refused g c disk read =
    let j = c.args.journal in
    let t = c.tables.result.now in
    let read_so = subst (λ (u : Tables). IsRead g.D.Disk disk u j) (sym c.tables.ensures) read in
    let k = c.in-Err.ensures in
    let f = c.fault_of.ensures in
    refused_compact g.D.Disk disk t j read_so c.requires.old c.fault_of.result c.in-Err.fault f.undamaged f.disk f.fault k.crash k.earlier k.later k.fault k.memory

pub returns-in-Err-read_log-clause-refused : goal.returns-in-Err-read_log-clause-refused
returns-in-Err-read_log-clause-refused g c disk read =
    let j = c.args.journal in
    let t = c.tables.result.now in
    let read_so = subst (λ (u : Tables). IsRead g.D.Disk disk u j) (sym c.tables.ensures) read in
    let k = c.in-Ok.ensures in
    let is_put : IsPut g.D.Disk t j c.in-Ok.disk = record { bytes = k.bytes; rests = k.rests; crash = k.crash; earlier = k.earlier; later = k.later; fine = k.fine } in
    refused_anew g.D.Disk disk t j read_so c.requires.old c.contents_recover.ensures c.checkpoint_restores.ensures g.met.D.Disk.told_limit c.in-Ok.disk is_put _ c.in-Err-read_log.ensures.refused

pub returns-then-version-eq-WRITTEN_VERSION-clause-mounted : goal.returns-then-version-eq-WRITTEN_VERSION-clause-mounted
returns-then-version-eq-WRITTEN_VERSION-clause-mounted g c disk read =
    let j = c.args.journal in
    let t = c.tables.result.now in
    let read_so = subst (λ (u : Tables). IsRead g.D.Disk disk u j) (sym c.tables.ensures) read in
    let k = c.in-Ok.ensures in
    let is_put : IsPut g.D.Disk t j c.in-Ok.disk = record { bytes = k.bytes; rests = k.rests; crash = k.crash; earlier = k.earlier; later = k.later; fine = k.fine } in
    mounted_anew g.D.Disk disk t j read_so c.requires.old c.contents_recover.ensures c.checkpoint_restores.ensures g.met.D.Disk.told_limit c.in-Ok.disk is_put _ _ c.in-Ok-read_log.ensures.read (sym c.version.ensures ∙ c.if-version-eq-WRITTEN_VERSION.true)

pub returns-clause-refused : goal.returns-clause-refused
returns-clause-refused g c disk read =
    let j = c.args.journal in
    let t = c.tables.result.now in
    let read_so = subst (λ (u : Tables). IsRead g.D.Disk disk u j) (sym c.tables.ensures) read in
    let k = c.in-Ok.ensures in
    let is_put : IsPut g.D.Disk t j c.in-Ok.disk = record { bytes = k.bytes; rests = k.rests; crash = k.crash; earlier = k.earlier; later = k.later; fine = k.fine } in
    refused_version g.D.Disk disk t j read_so c.requires.old c.contents_recover.ensures c.checkpoint_restores.ensures g.met.D.Disk.told_limit c.in-Ok.disk is_put _ _ _ _ c.into_disk.ensures c.in-Ok-read_log.ensures.read (λ is. c.if-version-eq-WRITTEN_VERSION.false (c.version.ensures ∙ is))
