use Rattle.std.proofs.Common.{◌≡◌, inl, ℕ, List, Ok, sym, ◌∙◌, ap, subst}
use Rattle.std.specs.Prelude.{IfOk}
use Rattle.aq_disk.specs.Disk.{EachImage}
use Rattle.aq_disk.proofs.Moments.{each_here}
use Rattle.checkpoint.specs.Answer.{disk_after}
use Rattle.checkpoint.specs.Compaction.{compacted_journal}
use Rattle.redo_journal.specs.Journal.{Mounted, journal}
use Rattle.redo_journal.specs.Journaled.{Rests}
use Rattle.redo_journal.specs.Crash.{StandsForEither, compacted, contents_in}
use Rattle.redo_journal.specs.Runs.{HasJournal}
use Rattle.redo_journal.proofs.Grow.{contents_same}
use Rattle.redo_journal.proofs.Moments.{each_more}
use Rattle.redo_records.specs.Recovered.{recovered}
use Rattle.redo_records.specs.Spelling.{encode}
use Rattle.checkpoint_commit.specs.Checkpoint.{checkpoint_of}
use Rattle.checkpoint_commit.proofs.compacting.compact_into.Goals as goal

-- no call was made: the disk has the journal that it had
pub returns-in_default-clause-crash : goal.returns-in_default-clause-crash
returns-in_default-clause-crash g c bytes told m rests led =
    let disk = g.D.Disk in
    let old = c.args.journal.disk in
    let t = c.args.tables.now in
    let at = rests.disk bytes told in
    let to_tables : List ℕ → Type 0 = λ image. recovered image ≡ Ok t in
    let here : EachImage (disk.calls old) (disk.calls old) (disk.is_image old) to_tables =
    each_here (disk.calls old) (disk.is_image old) to_tables
    (λ image left. c.compaction_recovers.ensures m t image c.requires.sound led (inl (contents_same m image (ap journal (at.settled image left) ∙ at.reads)))) in
    subst (λ d. EachImage (disk.calls old) (disk.calls d) (disk.is_image d) to_tables) (sym c.into_disk.ensures) here

pub returns-clause-rests : goal.returns-clause-rests
returns-clause-rests g c =
    let disk = g.D.Disk in
    let t = c.args.tables.now in
    let written : c.deref.result.now ≡ encode (checkpoint_of t) = c.deref.ensures.value ∙ c.in-Ok.ensures in
    let Has : List ℕ → Type 0 = λ body. IfOk c.compact.result (λ d. (m : Mounted) → Rests disk.seen disk.is_image disk.calls c.args.journal m → HasJournal disk.seen disk.is_image disk.calls d (compacted_journal c.args.journal.active body)) in
    subst Has written c.compact.ensures.rests

pub returns-clause-crash : goal.returns-clause-crash
returns-clause-crash g c bytes told m rests led =
    let disk = g.D.Disk in
    let old = c.args.journal.disk in
    let new = disk_after c.compact.result in
    let t = c.args.tables.now in
    let written : c.deref.result.now ≡ encode (checkpoint_of t) = c.deref.ensures.value ∙ c.in-Ok.ensures in
    each_more (disk.calls old) (disk.calls new) (disk.is_image new) (StandsForEither (contents_in m) (compacted c.deref.result.now)) (λ image. recovered image ≡ Ok t)
    (λ image stands. c.compaction_recovers.ensures m t image c.requires.sound led (subst (λ (body : List ℕ). StandsForEither (contents_in m) (compacted body) image) written stands))
    (c.compact.ensures.crash bytes told m rests)
