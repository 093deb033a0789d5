use Rattle.std.proofs.Common.{◌≡◌, ◌≤◌, ◌+◌, ◌^◌, ◌∷◌, [], inl, ℕ, List, length, sym, ◌∙◌, ap, subst}
use Rattle.std.specs.Prelude.{option_map}
use Rattle.aq_disk.specs.Disk.{Only, IsSettled, EachImage}
use Rattle.aq_disk.proofs.Moments.{each_here}
use Rattle.redo_journal.specs.Journal.{area, journal}
use Rattle.redo_journal.specs.Crash.{IsAtRest, StandsForEither, contents_in, compacted}
use Rattle.redo_journal.specs.declared.frame.Active.{Active}
use Rattle.redo_journal.proofs.Grow.{contents_same}
use Rattle.redo_journal.proofs.Moments.{each_more, settled_told, told_back}
use Rattle.checkpoint.specs.Compaction.{new_root, turned_bytes, compacted_journal, TornTurn}
use Rattle.checkpoint.proofs.Turning.{turn_torn, turn_rests}
use Rattle.checkpoint.proofs.compacting.compact.Goals as goal

pub returns-in_default-clause-crash : goal.returns-in_default-clause-crash
returns-in_default-clause-crash g c bytes told m rests =
    let disk = g.D.Disk in
    let old = c.args.journal.disk in
    let either = StandsForEither (contents_in m) (compacted c.args.body.now) in
    let at = rests.disk bytes told in
    let here : EachImage (disk.calls old) (disk.calls old) (disk.is_image old) either =
    each_here (disk.calls old) (disk.is_image old) either (λ image left. inl (contents_same m image (ap journal (at.settled image left) ∙ at.reads))) in
    subst (λ d. EachImage (disk.calls old) (disk.calls d) (disk.is_image d) either) (sym c.into_disk.ensures) here

pub returns-in-Ok-put_area-clause-crash : goal.returns-in-Ok-put_area-clause-crash
returns-in-Ok-put_area-clause-crash g c bytes told m rests =
    let disk = g.D.Disk in
    let old = c.args.journal.disk in
    let put = c.into_disk-disk.result in
    let new = c.put_area.new.disk in
    let body = c.args.body.now in
    let either = StandsForEither (contents_in m) (compacted body) in
    let at = rests.disk bytes told in
    let same : put ≡ old = c.into_disk-disk.ensures in
    let settled : IsSettled (disk.seen put) (disk.is_image put (disk.calls put)) =
    subst (λ d. IsSettled (disk.seen d) (disk.is_image d (disk.calls d))) (sym same) (settled_told (disk.seen old) bytes (disk.is_image old (disk.calls old)) told at.settled) in
    let each = c.put_area.ensures.any_moment settled bytes (ap disk.seen same ∙ told) in
    let active : c.active-active.result ≡ m.active = c.active-active.ensures.value ∙ rests.active in
    let written : c.deref.result.now ≡ area (body ∷ []) = c.deref.ensures.value ∙ c.in-Ok.ensures in
    let le : length bytes ≤ 2 ^ 62 = g.met.D.Disk.told_limit old bytes told in
    subst (λ d. EachImage (disk.calls d) (disk.calls new) (disk.is_image new) either) same
    (each_more (disk.calls put) (disk.calls new) (disk.is_image new) (TornTurn c.active-active.result c.deref.result.now bytes) either
    (λ image torn. turn_torn m body bytes (disk.is_image old (disk.calls old)) at le image
    (subst (λ (l : List ℕ). TornTurn m.active l bytes image) written (subst (λ (a : Active). TornTurn a c.deref.result.now bytes image) active torn))) each)

pub returns-in-Ok-put_area-clause-bytes : goal.returns-in-Ok-put_area-clause-bytes
returns-in-Ok-put_area-clause-bytes g c =
    let disk = g.D.Disk in
    let new = c.put_area.new.disk in
    let written : c.deref.result.now ≡ area (c.args.body.now ∷ []) = c.deref.ensures.value ∙ c.in-Ok.ensures in
    c.in-Ok-put_area.ensures.bytes ∙ ap (option_map (turned_bytes c.active-active.result c.deref.result.now)) (ap disk.seen c.into_disk-disk.ensures)
    ∙ ap (λ (a : Active). option_map (turned_bytes a c.deref.result.now) (disk.seen c.args.journal.disk)) c.active-active.ensures.value
    ∙ ap (λ (l : List ℕ). option_map (turned_bytes c.args.journal.active l) (disk.seen c.args.journal.disk)) written

pub returns-in-Ok-put_area-clause-rests : goal.returns-in-Ok-put_area-clause-rests
returns-in-Ok-put_area-clause-rests g c m rests new told_new =
    let disk = g.D.Disk in
    let old = c.args.journal.disk in
    let put = c.into_disk-disk.result in
    let after = c.put_area.new.disk in
    let body = c.args.body.now in
    let a = c.active-active.result in
    let n = c.deref.result.now in
    let images = disk.is_image after (disk.calls after) in
    let same : put ≡ old = c.into_disk-disk.ensures in
    let active : a ≡ m.active = c.active-active.ensures.value ∙ rests.active in
    let written : n ≡ area (body ∷ []) = c.deref.ensures.value ∙ c.in-Ok.ensures in
    let before = told_back (turned_bytes a n) (disk.seen put) new (sym c.in-Ok-put_area.ensures.bytes ∙ told_new) in
    let told = ap disk.seen (sym same) ∙ before.1 in
    let at = rests.disk before.0 told in
    let done : turned_bytes m.active (area (body ∷ [])) before.0 ≡ new =
    sym (ap (λ (x : Active). turned_bytes x n before.0) active ∙ ap (λ (l : List ℕ). turned_bytes m.active l before.0) written) ∙ before.2 in
    let only : Only (turned_bytes m.active (area (body ∷ [])) before.0) images = subst (λ (l : List ℕ). Only l images) (sym done) (c.in-Ok-put_area.ensures.settled new told_new) in
    let fits : new_root m.active (length (area (body ∷ []))) + length (area (body ∷ [])) ≤ 2 ^ 62 =
    subst (λ (l : List ℕ). new_root m.active (length l) + length l ≤ 2 ^ 62) written (subst (λ (x : Active). new_root x (length n) + length n ≤ 2 ^ 62) active c.in-Ok-put_area.ensures.limit) in
    subst (λ (x : Active). IsAtRest (compacted_journal x body) new images) (sym rests.active)
    (subst (λ (l : List ℕ). IsAtRest (compacted_journal m.active body) l images) done
    (turn_rests m body before.0 (disk.is_image old (disk.calls old)) images at (g.met.D.Disk.told_limit old before.0 told) fits only))

pub returns-clause-crash : goal.returns-clause-crash
returns-clause-crash g c bytes told m rests =
    let disk = g.D.Disk in
    let old = c.args.journal.disk in
    let put = c.into_disk-disk.result in
    let new = c.put_area.new.disk in
    let body = c.args.body.now in
    let either = StandsForEither (contents_in m) (compacted body) in
    let at = rests.disk bytes told in
    let same : put ≡ old = c.into_disk-disk.ensures in
    let settled : IsSettled (disk.seen put) (disk.is_image put (disk.calls put)) =
    subst (λ d. IsSettled (disk.seen d) (disk.is_image d (disk.calls d))) (sym same) (settled_told (disk.seen old) bytes (disk.is_image old (disk.calls old)) told at.settled) in
    let each = c.put_area.ensures.any_moment settled bytes (ap disk.seen same ∙ told) in
    let active : c.active-active.result ≡ m.active = c.active-active.ensures.value ∙ rests.active in
    let written : c.deref.result.now ≡ area (body ∷ []) = c.deref.ensures.value ∙ c.in-Ok.ensures in
    let le : length bytes ≤ 2 ^ 62 = g.met.D.Disk.told_limit old bytes told in
    subst (λ d. EachImage (disk.calls d) (disk.calls new) (disk.is_image new) either) same
    (each_more (disk.calls put) (disk.calls new) (disk.is_image new) (TornTurn c.active-active.result c.deref.result.now bytes) either
    (λ image torn. turn_torn m body bytes (disk.is_image old (disk.calls old)) at le image
    (subst (λ (l : List ℕ). TornTurn m.active l bytes image) written (subst (λ (a : Active). TornTurn a c.deref.result.now bytes image) active torn))) each)
