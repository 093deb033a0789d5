use Rattle.std.proofs.Common.{◌≡◌, length, Some, refl, sym, ◌∙◌, ap, arith}
use Rattle.std.specs.Prelude.{option_map}
use Rattle.aq_disk.specs.Disk.{after_write, Torn}
use Rattle.aq_disk.specs.Left.{torn_by}
use Rattle.aq_disk.proofs.Moments.{sync_moments, earlier_on}
use Rattle.redo_journal.proofs.Moments.{told_back, map_after}
use Rattle.checkpoint.specs.Compaction.{TornTwice}
use Rattle.checkpoint.proofs.Calls.{on_ok, twice_by, first_moments, second_moments}
use Rattle.checkpoint.proofs.put.put_both.Goals as goal

pub write_at-requires-2 : goal.write_at-requires-2
write_at-requires-2 g c after told =
    let disk = g.D.Disk in
    let at = c.args.at in
    let first = c.args.first.now in
    let before = told_back (after_write at first) (disk.seen c.args.disk.now) after (sym c.in_ok-write_at.ensures.bytes ∙ told) in
    let torn : Torn at (length first) before.0 (after_write at first before.0) = torn_by at (length first) first before.0 (c.requires.place before.0 before.1) refl in
    omega (arith, c.requires.also before.0 before.1, torn.no_shorter, ap length before.2)

pub returns-in_err-write_at-clause-any_moment : goal.returns-in_err-write_at-clause-any_moment
returns-in_err-write_at-clause-any_moment g c settled bytes told =
    let disk = g.D.Disk in
    let old = c.args.disk.now in
    let new = c.write_at.new.self in
    first_moments (disk.calls old) (disk.calls new) c.args.at (length c.args.first.now) c.args.also_at (length c.args.second.now) bytes (disk.is_image old) (disk.is_image new)
    (settled bytes told) c.write_at.ensures.crash c.write_at.ensures.earlier c.write_at.ensures.number

pub returns-in_err-write_at-2-clause-any_moment : goal.returns-in_err-write_at-2-clause-any_moment
returns-in_err-write_at-2-clause-any_moment g c settled bytes told =
    let disk = g.D.Disk in
    let old = c.args.disk.now in
    let mid = c.write_at.new.self in
    let new = c.write_at-2.new.self in
    second_moments (disk.calls old) (disk.calls mid) c.args.at (length c.args.first.now) c.args.also_at (length c.args.second.now) bytes (disk.is_image old) (disk.is_image mid)
    (settled bytes told) c.write_at.ensures.crash c.write_at.ensures.earlier c.write_at.ensures.number (disk.calls new) (disk.is_image new) c.write_at-2.ensures.crash c.write_at-2.ensures.earlier c.write_at-2.ensures.number

pub returns-in_err-write_at-2-clause-earlier : goal.returns-in_err-write_at-2-clause-earlier
returns-in_err-write_at-2-clause-earlier g c =
    let disk = g.D.Disk in
    let old = c.args.disk.now in
    let mid = c.write_at.new.self in
    let new = c.write_at-2.new.self in
    earlier_on (disk.calls old) (disk.calls mid) (disk.is_image old) (disk.is_image mid) (disk.is_image new) c.write_at.ensures.earlier (omega (arith, c.write_at.ensures.number)) c.write_at-2.ensures.earlier

pub returns-clause-earlier : goal.returns-clause-earlier
returns-clause-earlier g c =
    let disk = g.D.Disk in
    let old = c.args.disk.now in
    let mid = c.write_at.new.self in
    let after = c.write_at-2.new.self in
    let new = c.sync.new.self in
    earlier_on (disk.calls old) (disk.calls after) (disk.is_image old) (disk.is_image after) (disk.is_image new)
    (earlier_on (disk.calls old) (disk.calls mid) (disk.is_image old) (disk.is_image mid) (disk.is_image after) c.write_at.ensures.earlier (omega (arith, c.write_at.ensures.number)) c.write_at-2.ensures.earlier)
    (omega (arith, c.write_at.ensures.number, c.write_at-2.ensures.number)) c.sync.ensures.earlier

pub returns-clause-any_moment : goal.returns-clause-any_moment
returns-clause-any_moment g c settled bytes told =
    let disk = g.D.Disk in
    let old = c.args.disk.now in
    let mid = c.write_at.new.self in
    let after = c.write_at-2.new.self in
    let new = c.sync.new.self in
    let at = c.args.at in
    let also = c.args.also_at in
    let first = c.args.first.now in
    let second = c.args.second.now in
    let both = second_moments (disk.calls old) (disk.calls mid) at (length first) also (length second) bytes (disk.is_image old) (disk.is_image mid)
    (settled bytes told) c.write_at.ensures.crash c.write_at.ensures.earlier c.write_at.ensures.number (disk.calls after) (disk.is_image after) c.write_at-2.ensures.crash c.write_at-2.ensures.earlier c.write_at-2.ensures.number in
    let is : disk.seen after ≡ Some (after_write also second (after_write at first bytes)) =
    c.in_ok-write_at-2.ensures.bytes ∙ ap (option_map (after_write also second)) (c.in_ok-write_at.ensures.bytes ∙ ap (option_map (after_write at first)) told) in
    sync_moments c.sync.result (disk.calls old) (disk.calls after) (disk.calls new) (disk.seen after) (after_write also second (after_write at first bytes)) (disk.is_image after) (disk.is_image new)
    (TornTwice at (length first) also (length second) bytes) both (omega (arith, c.write_at.ensures.number, c.write_at-2.ensures.number)) is
    (twice_by at also first second bytes (c.requires.place bytes told) (c.requires.also bytes told))
    c.sync.ensures.durable c.sync.ensures.crash c.sync.ensures.earlier c.sync.ensures.number

pub returns-clause-bytes : goal.returns-clause-bytes
returns-clause-bytes g c =
    let disk = g.D.Disk in
    let old = c.args.disk.now in
    let at = c.args.at in
    let also = c.args.also_at in
    let first = c.args.first.now in
    let second = c.args.second.now in
    on_ok c.sync.result (disk.seen c.sync.new.self ≡ option_map (λ bytes. after_write also second (after_write at first bytes)) (disk.seen old))
    (c.sync.ensures.bytes ∙ c.in_ok-write_at-2.ensures.bytes ∙ ap (option_map (after_write also second)) c.in_ok-write_at.ensures.bytes ∙ map_after (after_write at first) (after_write also second) (disk.seen old))
