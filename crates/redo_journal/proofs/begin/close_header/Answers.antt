use Rattle.std.proofs.Common.{◌≡◌, ℕ, length, slice_index, true, List, sym, ◌∙◌, ap, subst}
use Rattle.aq_disk.specs.Disk.{Torn}
use Rattle.aq_disk.proofs.Moments.{each_here}
use Rattle.redo_journal.specs.Journal.{is_unbegun}
use Rattle.redo_journal.specs.Crash.{StandsForNone}
use Rattle.redo_journal.proofs.Beginning.{close_torn, unbegun_same}
use Rattle.redo_journal.proofs.Moments.{each_more}
use Rattle.redo_journal.proofs.begin.close_header.Goals as goal

pub returns-then-is_shut-clause-any_moment : goal.returns-then-is_shut-clause-any_moment
returns-then-is_shut-clause-any_moment g c settled bytes told =
    let disk = g.D.Disk in
    let old = c.args.disk.now in
    let unbegun : is_unbegun bytes ≡ true = ap is_unbegun (c.requires.told bytes told) ∙ c.requires.unbegun in
    each_here (disk.calls old) (disk.is_image old) StandsForNone (λ image left. unbegun_same bytes image unbegun (settled bytes told image left))

pub returns-clause-any_moment : goal.returns-clause-any_moment
returns-clause-any_moment g c settled bytes told =
    let disk = g.D.Disk in
    let old = c.args.disk.now in
    let new = c.write_synced.new.disk in
    let same : bytes ≡ c.args.bytes.now = c.requires.told bytes told in
    let unbegun : is_unbegun bytes ≡ true = ap is_unbegun same ∙ c.requires.unbegun in
    let not_shut : slice_index bytes 0 ≡ 0 → length bytes ≡ 0 = subst (λ (l : List ℕ). slice_index l 0 ≡ 0 → length l ≡ 0) (sym same) (c.is_shut.ensures.no c.if-is_shut.false) in
    each_more (disk.calls old) (disk.calls new) (disk.is_image new) (Torn 0 1 bytes) StandsForNone (λ image torn. close_torn bytes image unbegun not_shut torn) (c.write_synced.ensures.any_moment settled bytes told)
