-- The laws of what a crash leaves: of a type of disks, by the meanings of its images and its calls.
use Rattle.std.specs.Prelude.{◌≡◌, ◌≤◌, ℕ, List, false, true}
use Rattle.aq_base.specs.declared.DbId.{DbId}
use Rattle.aq_disk.specs.Disk.{EachImage, KeepsEarlier}
use Rattle.queue_rows.specs.declared.tables.Tables.{Tables}
use Rattle.queue_rows.specs.declared.history.Entry.{Entry}
use Rattle.history_laws.specs.Made.{commits_of, after_commits}
use Rattle.history_laws.specs.Durability.{is_flush, made, durable}
use Rattle.crash_laws.specs.Crash.{Run, Recovers, RecoversEither, RecoversRun, SurvivesCrash, calls_in, opened_run, with_entry, tables_at}

-- a run without entries survives where each image since mounting began recovers its opening
abbrev pub OpeningSurvives : {D : Type 0} → (D → ℕ → List ℕ → Type 0) → (D → ℕ) → Type 0
OpeningSurvives {D} images calls = (db : DbId) (opening : Tables) (start : ℕ) (disk : D) → start ≤ calls disk → EachImage start (calls disk) (images disk) (Recovers opening)
    → SurvivesCrash (opened_run db opening start) (calls disk) (images disk)

-- it survives further calls of its disk, where each of their images recovers what is durable, and no more than was made
abbrev pub CallsPass : {D : Type 0} → (D → ℕ → List ℕ → Type 0) → (D → ℕ) → Type 0
CallsPass {D} images calls = (r : Run) (old new : D) → SurvivesCrash r (calls old) (images old) → calls old ≤ calls new → KeepsEarlier (calls old) (images old) (images new)
    → EachImage (calls old) (calls new) (images new) (RecoversRun r) → SurvivesCrash r (calls new) (images new)

-- each image of a flush is such a one: it recovers what was on the disk, which is no less than was durable, or all that was made
abbrev pub FlushLeaves : Type 0
FlushLeaves = (r : Run) (k : ℕ) (image : List ℕ) → durable r.db r.entries ≤ k → k ≤ made r.db r.entries
    → RecoversEither (tables_at k r) (after_commits r.opening (commits_of r.db r.entries)) image → RecoversRun r image

-- it survives with an entry that is no flush and makes no call
abbrev pub EntryComes : {D : Type 0} → (D → ℕ → List ℕ → Type 0) → (D → ℕ) → Type 0
EntryComes {D} images calls = (r : Run) (e : Entry) (disk : D) → SurvivesCrash r (calls disk) (images disk) → is_flush e.step ≡ false → calls_in r.db e ≡ calls disk
    → SurvivesCrash (with_entry e r) (calls disk) (images disk)

-- and with a flush, where each image behind it recovers all that was made
abbrev pub FlushComes : {D : Type 0} → (D → ℕ → List ℕ → Type 0) → (D → ℕ) → Type 0
FlushComes {D} images calls = (r : Run) (e : Entry) (disk : D) → SurvivesCrash r (calls disk) (images disk) → is_flush e.step ≡ true → calls_in r.db e ≡ calls disk
    → EachImage (calls disk) (calls disk) (images disk) (Recovers (after_commits r.opening (commits_of r.db (with_entry e r).entries)))
    → SurvivesCrash (with_entry e r) (calls disk) (images disk)
