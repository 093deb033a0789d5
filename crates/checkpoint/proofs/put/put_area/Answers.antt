use Rattle.std.proofs.Common.{◌≡◌, ◌≤◌, ◌+◌, ◌^◌, ◌⊎◌, ◌∷◌, [], inl, inr, ℕ, length, Some, sym, ◌∙◌, ap, arith}
use Rattle.std.specs.Prelude.{option_map}
use Rattle.aq_disk.specs.Disk.{after_write, Torn}
use Rattle.redo_journal.specs.Journal.{pointer_of}
use Rattle.redo_journal.proofs.Moments.{each_then, each_more, told_back, map_after}
use Rattle.checkpoint.specs.Compaction.{other_side, side_byte, new_root, staged_bytes, turned_bytes, TornTwice, TornTurn}
use Rattle.checkpoint.proofs.Calls.{on_ok_more, staged_as, torn_as}
use Rattle.checkpoint.proofs.Turning.{place_is, pointer_is, staged_longer}
use Rattle.checkpoint.proofs.put.put_area.Goals as goal

pub put_both-requires-clause-place : goal.put_both-requires-clause-place
put_both-requires-clause-place g c bytes told = omega (arith, (place_is c.args.active (length c.args.area.now) c.requires.area).within, c.new_root-root.ensures, c.requires.place bytes told)

pub put_both-requires-clause-also : goal.put_both-requires-clause-also
put_both-requires-clause-also g c bytes told =
    omega (arith, (pointer_is c.other_side-side.result).to, c.pointer_of.ensures, c.requires.area.header, c.requires.area.version, c.requires.place bytes told)

pub write_synced-requires : goal.write_synced-requires
write_synced-requires g c after told =
    let disk = g.D.Disk in
    let old = c.args.disk.now in
    let active = c.args.active in
    let new = c.args.area.now in
    let also_is : c.pointer_of.result ≡ pointer_of (other_side active.side) = c.pointer_of.ensures ∙ ap pointer_of c.other_side-side.ensures in
    let staged = c.in_ok-put_both.ensures.bytes ∙ staged_as active new c.to_be_bytes.result c.new_root-root.result c.pointer_of.result (disk.seen old) c.new_root-root.ensures also_is c.to_be_bytes.ensures in
    let before = told_back (staged_bytes active new) (disk.seen old) after (sym staged ∙ told) in
    omega (arith, staged_longer active new before.0 c.requires.area (c.requires.place before.0 before.1), c.requires.place before.0 before.1, c.requires.area.header, c.requires.area.version, ap length before.2)

pub returns-in_err-put_both-clause-any_moment : goal.returns-in_err-put_both-clause-any_moment
returns-in_err-put_both-clause-any_moment g c settled bytes told =
    let disk = g.D.Disk in
    let old = c.args.disk.now in
    let mid = c.put_both.new.disk in
    let active = c.args.active in
    let new = c.args.area.now in
    let second = c.to_be_bytes.result in
    let root = c.new_root-root.result in
    let also = c.pointer_of.result in
    let also_is : also ≡ pointer_of (other_side active.side) = c.pointer_of.ensures ∙ ap pointer_of c.other_side-side.ensures in
    each_more (disk.calls old) (disk.calls mid) (disk.is_image mid) (TornTwice root (length new) also (length second) bytes) (TornTurn active new bytes)
    (λ image torn. inl (torn_as active new second root also bytes image c.new_root-root.ensures also_is (ap length c.to_be_bytes.ensures) torn)) (c.put_both.ensures.any_moment settled bytes told)

pub returns-clause-any_moment : goal.returns-clause-any_moment
returns-clause-any_moment g c settled bytes told =
    let disk = g.D.Disk in
    let old = c.args.disk.now in
    let mid = c.put_both.new.disk in
    let after = c.write_synced.new.disk in
    let active = c.args.active in
    let new = c.args.area.now in
    let second = c.to_be_bytes.result in
    let root = c.new_root-root.result in
    let also = c.pointer_of.result in
    let also_is : also ≡ pointer_of (other_side active.side) = c.pointer_of.ensures ∙ ap pointer_of c.other_side-side.ensures in
    let staged = c.in_ok-put_both.ensures.bytes ∙ staged_as active new second root also (disk.seen old) c.new_root-root.ensures also_is c.to_be_bytes.ensures in
    let told_staged : disk.seen mid ≡ Some (staged_bytes active new bytes) = staged ∙ ap (option_map (staged_bytes active new)) told in
    let fits : new_root active (length new) + length new ≤ 2 ^ 62 = omega (arith, c.in_ok-put_both.ensures.limit, c.new_root-root.ensures) in
    let first = c.put_both.ensures.any_moment settled bytes told in
    let last = c.write_synced.ensures.any_moment c.in_ok-put_both.ensures.settled (staged_bytes active new bytes) told_staged in
    let both = each_then (disk.calls old) (disk.calls mid) (disk.calls after) (disk.is_image mid) (disk.is_image after) (TornTwice root (length new) also (length second) bytes) (Torn 7 1 (staged_bytes active new bytes)) first c.write_synced.ensures.earlier last in
    each_more (disk.calls old) (disk.calls after) (disk.is_image after) (λ image. TornTwice root (length new) also (length second) bytes image ⊎ Torn 7 1 (staged_bytes active new bytes) image) (TornTurn active new bytes)
    (λ image. elim [ inl torn ↦ inl (torn_as active new second root also bytes image c.new_root-root.ensures also_is (ap length c.to_be_bytes.ensures) torn) | inr torn ↦ inr (fits, torn) ]) both

pub returns-clause-bytes : goal.returns-clause-bytes
returns-clause-bytes g c =
    let disk = g.D.Disk in
    let old = c.args.disk.now in
    let mid = c.put_both.new.disk in
    let after = c.write_synced.new.disk in
    let active = c.args.active in
    let new = c.args.area.now in
    let also_is : c.pointer_of.result ≡ pointer_of (other_side active.side) = c.pointer_of.ensures ∙ ap pointer_of c.other_side-side.ensures in
    let staged = c.in_ok-put_both.ensures.bytes ∙ staged_as active new c.to_be_bytes.result c.new_root-root.result c.pointer_of.result (disk.seen old) c.new_root-root.ensures also_is c.to_be_bytes.ensures in
    let byte : c.side_byte.result ≡ side_byte (other_side active.side) = c.side_byte.ensures ∙ ap side_byte c.other_side-side.ensures in
    on_ok_more c.write_synced.result (disk.seen after ≡ option_map (after_write 7 (c.side_byte.result ∷ [])) (disk.seen mid)) (disk.seen after ≡ option_map (turned_bytes active new) (disk.seen old))
    (λ written. written ∙ ap (λ (b : ℕ). option_map (after_write 7 (b ∷ [])) (disk.seen mid)) byte ∙ ap (option_map (after_write 7 (side_byte (other_side active.side) ∷ []))) staged
    ∙ map_after (staged_bytes active new) (after_write 7 (side_byte (other_side active.side) ∷ [])) (disk.seen old)) c.write_synced.ensures.bytes

pub returns-clause-limit : goal.returns-clause-limit
returns-clause-limit g c =
    let fits : new_root c.args.active (length c.args.area.now) + length c.args.area.now ≤ 2 ^ 62 = omega (arith, c.in_ok-put_both.ensures.limit, c.new_root-root.ensures) in
    on_ok_more c.write_synced.result (7 + 1 ≤ 2 ^ 62) (new_root c.args.active (length c.args.area.now) + length c.args.area.now ≤ 2 ^ 62) (λ le. fits) c.write_synced.ensures.limit
