use Rattle.std.proofs.Common.{◌≡◌, ◌≤◌, ◌+◌, ◌^◌, ◌⊎◌, inl, inr, Some, length, ◌∙◌, ap}
use Rattle.std.specs.Prelude.{option_map}
use Rattle.aq_disk.specs.Disk.{after_write, Torn}
use Rattle.redo_journal.specs.Put.{TornFrame}
use Rattle.redo_journal.proofs.Moments.{each_then, each_more}
use Rattle.redo_journal.proofs.put.put_frame.Goals as goal

pub returns-in_err-write_synced-clause-any_moment : goal.returns-in_err-write_synced-clause-any_moment
returns-in_err-write_synced-clause-any_moment g c settled bytes told =
    let disk = g.D.Disk in
    let new = c.write_synced.new.disk in
    each_more (disk.calls c.args.disk.now) (disk.calls new) (disk.is_image new) (Torn (c.args.gate + 1) (length c.args.frame.now) bytes) (TornFrame c.args.gate c.args.frame.now bytes)
    (λ image torn. inl torn) (c.write_synced.ensures.any_moment settled bytes told)

pub returns-clause-any_moment : goal.returns-clause-any_moment
returns-clause-any_moment g c settled bytes told =
    let disk = g.D.Disk in
    let old = c.args.disk.now in
    let mid = c.write_synced.new.disk in
    let new = c.write_synced-2.new.disk in
    let gate = c.args.gate in
    let frame = c.args.frame.now in
    let staged = after_write (gate + 1) frame bytes in
    let told_staged : disk.seen mid ≡ Some staged = c.in_ok-write_synced.ensures.bytes ∙ ap (option_map (after_write (gate + 1) frame)) told in
    let fits : gate + 1 + length frame ≤ 2 ^ 62 = c.in_ok-write_synced.ensures.limit in
    let first = c.write_synced.ensures.any_moment settled bytes told in
    let second = c.write_synced-2.ensures.any_moment c.in_ok-write_synced.ensures.settled staged told_staged in
    let both = each_then (disk.calls old) (disk.calls mid) (disk.calls new) (disk.is_image mid) (disk.is_image new) (Torn (gate + 1) (length frame) bytes) (Torn gate 1 staged) first c.write_synced-2.ensures.earlier second in
    each_more (disk.calls old) (disk.calls new) (disk.is_image new) (λ image. Torn (gate + 1) (length frame) bytes image ⊎ Torn gate 1 staged image) (TornFrame gate frame bytes)
    (λ image. elim [ inl torn ↦ inl torn | inr torn ↦ inr (fits, torn) ]) both
