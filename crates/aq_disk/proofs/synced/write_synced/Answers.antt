use Rattle.std.proofs.Common.{arith, ◌≡◌, ◌∙◌, ap, length, Some, refl}
use Rattle.std.specs.Prelude.{option_map}
use Rattle.aq_disk.specs.Disk.{after_write, Torn}
use Rattle.aq_disk.specs.Left.{torn_by}
use Rattle.aq_disk.proofs.Moments.{write_moments, sync_moments, earlier_on}
use Rattle.aq_disk.proofs.synced.write_synced.Goals as goal

pub returns-in_err-write_at-clause-any_moment : goal.returns-in_err-write_at-clause-any_moment
returns-in_err-write_at-clause-any_moment g c settled bytes told =
    let old = c.args.disk.now in
    let new = c.write_at.new.self in
    write_moments (g.D.Disk.calls old) (g.D.Disk.calls new) c.args.at (length c.args.from.now) bytes (g.D.Disk.is_image old) (g.D.Disk.is_image new)
    (settled bytes told) c.write_at.ensures.crash c.write_at.ensures.earlier c.write_at.ensures.number

pub returns-clause-any_moment : goal.returns-clause-any_moment
returns-clause-any_moment g c settled bytes told =
    let old = c.args.disk.now in
    let mid = c.write_at.new.self in
    let new = c.sync.new.self in
    let written = write_moments (g.D.Disk.calls old) (g.D.Disk.calls mid) c.args.at (length c.args.from.now) bytes (g.D.Disk.is_image old) (g.D.Disk.is_image mid)
    (settled bytes told) c.write_at.ensures.crash c.write_at.ensures.earlier c.write_at.ensures.number in
    let is : g.D.Disk.seen mid ≡ Some (after_write c.args.at c.args.from.now bytes) = c.in_ok-write_at.ensures.bytes ∙ ap (option_map (after_write c.args.at c.args.from.now)) told in
    sync_moments c.sync.result (g.D.Disk.calls old) (g.D.Disk.calls mid) (g.D.Disk.calls new) (g.D.Disk.seen mid) (after_write c.args.at c.args.from.now bytes) (g.D.Disk.is_image mid) (g.D.Disk.is_image new)
    (Torn c.args.at (length c.args.from.now) bytes) written (omega (arith, c.write_at.ensures.number)) is
    (torn_by c.args.at (length c.args.from.now) c.args.from.now bytes (c.requires bytes told) refl)
    c.sync.ensures.durable c.sync.ensures.crash c.sync.ensures.earlier c.sync.ensures.number

pub returns-clause-earlier : goal.returns-clause-earlier
returns-clause-earlier g c =
    earlier_on (g.D.Disk.calls c.args.disk.now) (g.D.Disk.calls c.write_at.new.self) (g.D.Disk.is_image c.args.disk.now) (g.D.Disk.is_image c.write_at.new.self) (g.D.Disk.is_image c.sync.new.self)
    c.write_at.ensures.earlier (omega (arith, c.write_at.ensures.number)) c.sync.ensures.earlier
