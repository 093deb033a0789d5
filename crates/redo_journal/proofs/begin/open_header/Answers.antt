use Rattle.std.proofs.Common.{◌≡◌, ◌≤◌, ◌^◌, ℕ, length, ◌∷◌, [], List, Some, sym, ◌∙◌, ap, subst}
use Rattle.std.specs.Prelude.{option_map}
use Rattle.std.specs.Option.{ForSome}
use Rattle.aq_disk.specs.Disk.{Torn, after_write, Only, IsSettled}
use Rattle.redo_journal.specs.Journal.{beginning}
use Rattle.redo_journal.specs.Begun.{begun_journal, begun_bytes}
use Rattle.redo_journal.specs.Crash.{StandsForNone, IsAtRest}
use Rattle.redo_journal.proofs.Beginning.{marks_torn, open_torn, opened_rests, opened_bytes}
use Rattle.redo_journal.proofs.Moments.{each_more, each_both, told_back, on_ok_all, map_after, map_each}
use Rattle.redo_journal.proofs.begin.open_header.Goals as goal

pub returns-in_err-write_synced-clause-any_moment : goal.returns-in_err-write_synced-clause-any_moment
returns-in_err-write_synced-clause-any_moment g c settled bytes told =
    let disk = g.D.Disk in
    let old = c.args.disk.now in
    let new = c.write_synced.new.disk in
    each_more (disk.calls old) (disk.calls new) (disk.is_image new) (Torn 1 (length (beginning 2)) bytes) StandsForNone (λ image torn. marks_torn bytes image (c.requires bytes told) torn) (c.write_synced.ensures.any_moment settled bytes told)

pub returns-clause-any_moment : goal.returns-clause-any_moment
returns-clause-any_moment g c settled bytes told =
    let disk = g.D.Disk in
    let old = c.args.disk.now in
    let mid = c.write_synced.new.disk in
    let new = c.write_synced-2.new.disk in
    let staged = after_write 1 (beginning 2) bytes in
    let told_staged : disk.seen mid ≡ Some staged = c.in_ok-write_synced.ensures.bytes ∙ ap (option_map (after_write 1 (beginning 2))) told in
    let first = each_more (disk.calls old) (disk.calls mid) (disk.is_image mid) (Torn 1 (length (beginning 2)) bytes) StandsForNone (λ image torn. marks_torn bytes image (c.requires bytes told) torn) (c.write_synced.ensures.any_moment settled bytes told) in
    let second = each_more (disk.calls mid) (disk.calls new) (disk.is_image new) (Torn 0 1 staged) StandsForNone (λ image torn. open_torn bytes image (c.requires bytes told) torn)
    (c.write_synced-2.ensures.any_moment c.in_ok-write_synced.ensures.settled staged told_staged) in
    each_both (disk.calls old) (disk.calls mid) (disk.calls new) (disk.is_image mid) (disk.is_image new) StandsForNone first c.write_synced-2.ensures.earlier second

pub returns-clause-rests : goal.returns-clause-rests
returns-clause-rests g c =
    let disk = g.D.Disk in
    let old = c.args.disk.now in
    let mid = c.write_synced.new.disk in
    let new = c.write_synced-2.new.disk in
    let images = disk.is_image new (disk.calls new) in
    let is_written : Type 0 = disk.seen new ≡ option_map (after_write 0 (1 ∷ [])) (disk.seen mid) in
    on_ok_all c.write_synced-2.result is_written (1 ≤ 2 ^ 62) (IsSettled (disk.seen new) images) (ForSome (disk.seen new) (λ new. IsAtRest begun_journal new images))
    (λ written limit settled after told.
    let a = told_back (after_write 0 (1 ∷ [])) (disk.seen mid) after (sym written ∙ told) in
    let b = told_back (after_write 1 (beginning 2)) (disk.seen old) a.0 (sym c.in_ok-write_synced.ensures.bytes ∙ a.1) in
    let done : after_write 0 (1 ∷ []) (after_write 1 (beginning 2) b.0) ≡ after = ap (after_write 0 (1 ∷ [])) b.2 ∙ a.2 in
    subst (λ (l : List ℕ). IsAtRest begun_journal l images) done
    (opened_rests b.0 images (c.requires b.0 b.1) (subst (λ (l : List ℕ). Only l images) (sym done) (settled after told))))
    c.write_synced-2.ensures.bytes c.write_synced-2.ensures.limit c.write_synced-2.ensures.settled

pub returns-clause-leaves : goal.returns-clause-leaves
returns-clause-leaves g c =
    let disk = g.D.Disk in
    let old = c.args.disk.now in
    let is_written : Type 0 = disk.seen c.write_synced-2.new.disk ≡ option_map (after_write 0 (1 ∷ [])) (disk.seen c.write_synced.new.disk) in
    on_ok_all c.write_synced-2.result is_written is_written is_written (disk.seen c.write_synced-2.new.disk ≡ option_map begun_bytes (disk.seen old))
    (λ written same also.
    written ∙ ap (option_map (after_write 0 (1 ∷ []))) c.in_ok-write_synced.ensures.bytes ∙ map_after (after_write 1 (beginning 2)) (after_write 0 (1 ∷ [])) (disk.seen old)
    ∙ map_each (λ b. after_write 0 (1 ∷ []) (after_write 1 (beginning 2) b)) begun_bytes (disk.seen old) (λ b told. opened_bytes b (c.requires b told)))
    c.write_synced-2.ensures.bytes c.write_synced-2.ensures.bytes c.write_synced-2.ensures.bytes
