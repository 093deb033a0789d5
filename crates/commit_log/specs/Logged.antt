-- What is logged of a database: the commits that are made on its opening, of which the first ones are on the disk.
use Rattle.std.specs.Prelude.{◌≡◌, ◌≤◌, ℕ, List, length, take, true, Option, Some, IsSome}
use Rattle.std.specs.List.{AllByRecursion}
use Rattle.redo_journal.specs.Journal.{Mounted, bodies_in, written_version}
use Rattle.redo_journal.specs.Journaled.{Journaled, Rests}
use Rattle.redo_records.specs.Recovered.{after_bodies, recovered}
use Rattle.redo_records.specs.Spellable.{CanBeSpelled}
use Rattle.queue_rows.specs.Tables.{empty_tables}
use Rattle.queue_rows.specs.declared.tables.Tables.{Tables}
use Rattle.queue_rows.specs.declared.change.Commit.{Commit}
use Rattle.history_laws.specs.Made.{after_commits}
use Rattle.crash_laws.specs.LegalFates.{all_fit}

-- each commit fits the tables that those before it leave, and can be spelled
pub record AreLoggable (opening : Tables) (commits : List Commit) : Type 0 where
  pub fit : all_fit opening commits ≡ true
  pub spellable : AllByRecursion CanBeSpelled commits

-- The journal has these commits behind the opening: the first k of them are on its disk, which tells its bytes and is at rest, and the others
-- are queued. That the bytes mean them is said of commits that can be logged.
pub record Logs {D : Type 0} (seen : D → Option (List ℕ)) (images : D → ℕ → List ℕ → Type 0) (calls : D → ℕ) (opening : Tables) (commits : List Commit) (k : ℕ) (j : Journaled D) : Type 0 where
  pub m : Mounted
  pub told : IsSome (seen j.disk)
  pub rests : Rests seen images calls j m
  pub version : m.version ≡ written_version
  pub within : k ≤ length commits
  pub frames : AreLoggable opening commits → after_bodies written_version empty_tables (bodies_in m.frames) ≡ Some (after_commits opening (take k commits))
  pub queued : AreLoggable opening commits → after_bodies written_version (after_commits opening (take k commits)) j.queued ≡ Some (after_commits opening commits)

-- an image is recovered to what the bytes are recovered to, be it tables or a damage
abbrev pub RecoversSame : List ℕ → List ℕ → Type 0
RecoversSame bytes image = recovered image ≡ recovered bytes
