-- What contracts see of a store.
use Rattle.std.specs.Prelude.{◌≡◌, ◌≢◌, ℕ, List, [], Option, Some, None}
use Rattle.queue_rows.specs.declared.tables.Tables.{Tables}
use Rattle.queue_rows.specs.declared.change.Change.{Change}
use Rattle.queue_rows.specs.declared.change.Commit.{Commit}
use Rattle.message_store.specs.Prepared.{AreReady}
use Rattle.message_store.specs.Room.{Room}

-- the tables, and for how much more there is memory
pub record Stored : Type 0 where
  pub tables : Tables
  pub room : Room

-- the store is prepared for these changes: it can make them without memory
unfoldable pub IsPreparedFor : Stored → List Change → Type 0
IsPreparedFor s cs = AreReady s.tables s.room cs

-- the commit of these changes at that moment, for which the store is prepared; an empty list is none
abbrev pub IsCommitFor : Stored → List Change → ℕ → Option Commit → Type 0
IsCommitFor s cs moment None = cs ≡ []
IsCommitFor s cs moment (Some commit) = (commit ≡ record { moment = moment; changes = cs }) × (cs ≢ []) × IsPreparedFor s cs
