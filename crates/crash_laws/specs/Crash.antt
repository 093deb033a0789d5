-- What a crash at any moment leaves of a database, tied to what its run has committed.
use Rattle.std.specs.Prelude.{◌≡◌, ◌≤◌, ◌⊎◌, ℕ, List, [], ◌∷◌, ◌++◌, take, Ok}
use Rattle.aq_base.specs.declared.DbId.{DbId}
use Rattle.aq_base.specs.declared.DbId.TheVariants.{Home, Away}
use Rattle.aq_disk.specs.Disk.{EachImage}
use Rattle.queue_rows.specs.declared.tables.Tables.{Tables}
use Rattle.queue_rows.specs.declared.change.Commit.{Commit}
use Rattle.queue_rows.specs.declared.history.Entry.{Entry}
use Rattle.history_laws.specs.Made.{commits_of, after_commits}
use Rattle.history_laws.specs.Durability.{made, durable}
use Rattle.redo_records.specs.Recovered.{recovered}

-- a run at one database: its opening, the disk's call number as mounting began, and the entries
pub record Run : Type 0 where
  pub db : DbId
  pub opening : Tables
  pub start : ℕ
  pub entries : List Entry

-- ---- calls of the disk

-- the number of the disk's last call behind an entry
abbrev pub calls_in : DbId → Entry → ℕ
calls_in Home e = e.home_calls
calls_in Away e = e.away_calls

-- the disk's call number behind these entries, where this was its number before
abbrev pub calls_after : DbId → ℕ → List Entry → ℕ
calls_after db before [] = before
calls_after db before (e ∷ rest) = calls_after db (calls_in db e) rest

-- ---- what a crash leaves

-- the image is recovered to these tables
abbrev pub Recovers : Tables → List ℕ → Type 0
Recovers t image = recovered image ≡ Ok t

abbrev pub RecoversEither : Tables → Tables → List ℕ → Type 0
RecoversEither before after image = Recovers before image ⊎ Recovers after image

-- the image recovers the tables after the first k of the commits, for a k from one number to another
pub record RecoversFirst (opening : Tables) (commits : List Commit) (least most : ℕ) (image : List ℕ) : Type 0 where
  pub k : ℕ
  pub at_least : least ≤ k
  pub at_most : k ≤ most
  pub recovers : Recovers (after_commits opening (take k commits)) image

-- it recovers what is durable behind the run's entries, and no more than they made
abbrev pub RecoversRun : Run → List ℕ → Type 0
RecoversRun r = RecoversFirst r.opening (commits_of r.db r.entries) (durable r.db r.entries) (made r.db r.entries)

-- at each call number of an entry, from that behind the entries before it on, every image recovers what was durable before it, and no more
-- than it made
abbrev pub RecoversInEntries : Run → (ℕ → List ℕ → Type 0) → Type 0
RecoversInEntries r images = (front : List Entry) (e : Entry) (rest : List Entry) → r.entries ≡ front ++ e ∷ rest
    → EachImage (calls_after r.db r.start front) (calls_in r.db e) images
    (RecoversFirst r.opening (commits_of r.db r.entries) (durable r.db front) (made r.db (front ++ e ∷ [])))

-- and so at each call number from that behind the last entry on, or since mounting began where there is none
abbrev pub RecoversBehind : Run → ℕ → (ℕ → List ℕ → Type 0) → Type 0
RecoversBehind r calls images = EachImage (calls_after r.db r.start r.entries) calls images (RecoversRun r)

-- the call numbers of the entries never fall, and go up to the disk's
pub record AreCallsInOrder (r : Run) (calls : ℕ) : Type 0 where
  pub each : (front : List Entry) (e : Entry) (rest : List Entry) → r.entries ≡ front ++ e ∷ rest → calls_after r.db r.start front ≤ calls_in r.db e
  pub within : (front : List Entry) (e : Entry) (rest : List Entry) → r.entries ≡ front ++ e ∷ rest → calls_in r.db e ≤ calls
  pub last : calls_after r.db r.start r.entries ≤ calls

-- A crash at any moment since mounting began recovers the database after a first part of its commits, which has all that were durable: of a
-- disk with so many calls, by its images.
pub record SurvivesCrash (r : Run) (calls : ℕ) (images : ℕ → List ℕ → Type 0) : Type 0 where
  pub order : AreCallsInOrder r calls
  pub in_entries : RecoversInEntries r images
  pub behind : RecoversBehind r calls images

-- ---- runs

abbrev pub opened_run : DbId → Tables → ℕ → Run
opened_run db opening start = record { db = db; opening = opening; start = start; entries = [] }

abbrev pub with_entry : Entry → Run → Run
with_entry e r = record r { entries = r.entries ++ e ∷ [] }

-- the tables when that many of the run's commits were made
abbrev pub tables_at : ℕ → Run → Tables
tables_at k r = after_commits r.opening (take k (commits_of r.db r.entries))
