-- What a history commits at a database.
use Rattle.std.specs.Prelude.{◌==◌, List, length, fold, filter_map, flat_map, Option, Some, None, if◌then◌else◌}
use Rattle.aq_base.specs.declared.DbId.{DbId}
use Rattle.aq_base.specs.declared.DbId.TheVariants.{Home, Away}
use Rattle.queue_rows.specs.Tables.{after}
use Rattle.queue_rows.specs.declared.tables.Tables.{Tables}
use Rattle.queue_rows.specs.declared.change.Change.{Change}
use Rattle.queue_rows.specs.declared.change.Commit.{Commit}
use Rattle.queue_rows.specs.declared.history.Entry.{Entry}
use Rattle.queue_rows.specs.declared.history.History.{History}

-- ---- commits

-- what an entry commits at the database
abbrev pub changes_at : DbId → Entry → List Change
changes_at Home e = e.home
changes_at Away e = e.away

-- an empty list is no commit
abbrev pub commit_at : DbId → Entry → Option Commit
commit_at db e = if length (changes_at db e) == 0 then None else Some (record { moment = e.moment; changes = changes_at db e })

-- the commits of a database, in the order of their entries
abbrev pub commits_of : DbId → List Entry → List Commit
commits_of db entries = filter_map (commit_at db) entries

-- the changes of commits, one after another
abbrev pub changes_of : List Commit → List Change
changes_of commits = flat_map (λ c. c.changes) commits

-- the tables after commits
unfoldable pub after_commits : Tables → List Commit → Tables
after_commits t commits = fold after t commits

-- the database as the history begins
abbrev pub opening_of : DbId → History → Tables
opening_of Home h = h.home
opening_of Away h = h.away

-- a database's tables as a history leaves them
abbrev pub tables_after : DbId → History → Tables
tables_after db h = after_commits (opening_of db h) (commits_of db h.entries)
