-- What the commits of a run make of a database.
use Rattle.std.specs.Prelude.{◌≡◌, ◌≤◌, ◌<◌, ◌==◌, ◌&&◌, ◌+◌, ◌++◌, ℕ, List, [], ◌∷◌, Bool, true, false, length, All, AllPairs, Some, slice_get}
use Rattle.std.specs.List.{list_any}
use Rattle.aq_base.specs.declared.DbId.{DbId}
use Rattle.aq_base.specs.declared.DbId.TheVariants.{Home, Away}
use Rattle.queue_rows.specs.Tables.{after}
use Rattle.queue_rows.specs.Session.{Session, is_same_db}
use Rattle.queue_rows.specs.Fits.{fits}
use Rattle.queue_rows.specs.World.{World, database_at, committed_tables, commits_in}
use Rattle.queue_rows.specs.declared.tables.Tables.{Tables}
use Rattle.queue_rows.specs.declared.change.Change.{Change}
use Rattle.queue_rows.specs.declared.change.Commit.{Commit}
use Rattle.queue_rows.specs.declared.history.Entry.{Entry}
use Rattle.statement_laws.specs.Sessions.{is_addition_of}
use Rattle.history_laws.specs.CommitLaws.{IsProperCommit}
use Rattle.history_laws.specs.Made.{changes_at, commits_of, changes_of, after_commits}
use Rattle.history_laws.specs.Proper.{ids_put_in, AreProper}

-- ---- what was made of a database

abbrev pub opening_at : DbId → Tables → Tables → Tables
opening_at Home home away = home
opening_at Away home away = away

-- what the entries so far change at the database
abbrev pub changes_so_far : DbId → World → List Change
changes_so_far db w = changes_of (commits_of db w.entries)

-- each commit fits the tables that those before it leave
abbrev pub all_fit : Tables → List Commit → Bool
all_fit t [] = true
all_fit t (c ∷ more) = fits t c && all_fit (after t c) more

-- it is none that the opening had, and no message was put in with it
pub record IsUnused (opening : Tables) (cs : List Change) (id : ℕ) : Type 0 where
  pub later : opening.next ≤ id
  pub new : All (λ a. (a == id) ≡ false) (ids_put_in cs)

-- what sessions of the database have added and not committed has ids that were not used
abbrev pub AreUnused : Tables → List Change → DbId → List Session → Type 0
AreUnused opening cs db sessions = (i : ℕ) (s : Session) → slice_get sessions i ≡ Some s → is_same_db s.at db ≡ true → (id : ℕ)
    → list_any (is_addition_of id) s.pending ≡ true → IsUnused opening cs id

-- The database is what its commits made of the opening, in order; they are as many as were counted, and each fits. All that was changed
-- is proper. Messages were put in with ids that the database gave, and what sessions have added and not committed has ids that were not used.
pub record IsMade (opening : Tables) (db : DbId) (w : World) : Type 0 where
  pub tables : (database_at db w).tables ≡ after_commits opening (commits_of db w.entries)
  pub count : (database_at db w).made ≡ length (commits_of db w.entries)
  pub fit : all_fit opening (commits_of db w.entries) ≡ true
  pub proper : AreProper opening (changes_so_far db w)
  pub first : opening.next ≤ (database_at db w).next
  pub given : All (λ id. id < (database_at db w).next) (ids_put_in (changes_so_far db w))
  pub held : AreUnused opening (changes_so_far db w) db w.sessions

-- The world has one entry more, which commits these changes at the database, and takes so many ids there.
pub record AddsEntry (db : DbId) (w new : World) (cs : List Change) (taken : ℕ) : Type 0 where
  pub entry : Entry
  pub entries : new.entries ≡ w.entries ++ entry ∷ []
  pub changes : changes_at db entry ≡ cs
  pub moment : entry.moment ≡ w.moment
  pub tables : (database_at db new).tables ≡ committed_tables (database_at db w).tables cs w.moment
  pub count : (database_at db new).made ≡ (database_at db w).made + commits_in cs
  pub next : (database_at db new).next ≡ (database_at db w).next + taken

-- ---- the law

-- whoever commits: a proper commit that fits, with ids that are new and no session holds, leaves a database made so
abbrev pub CommitKeepsMade : Type 0
CommitKeepsMade = (opening : Tables) (db : DbId) (w new : World) (cs : List Change) (taken : ℕ) (ids : List ℕ) → IsMade opening db w → AddsEntry db w new cs taken
    → IsProperCommit (database_at db w).tables cs ids → AllPairs (λ a b. (a == b) ≡ false) ids → All (IsUnused opening (changes_so_far db w)) ids
    → All (λ id. id < (database_at db w).next + taken) ids → fits (database_at db w).tables (record { moment = w.moment; changes = cs }) ≡ true
    → AreUnused opening (changes_so_far db new) db new.sessions → IsMade opening db new
