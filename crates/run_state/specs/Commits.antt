-- What a commit makes of a database.
use Rattle.std.specs.Prelude.{Bool, not, nat_lt, Option, Some, None}
use Rattle.queue_rows.specs.Tables.{after}
use Rattle.queue_rows.specs.declared.tables.Tables.{Tables}
use Rattle.queue_rows.specs.declared.change.Commit.{Commit}
use Rattle.queue_rows.specs.World.{Database}

-- the tables after a commit, if there is one
abbrev pub made_by : Option Commit → Tables → Tables
made_by None t = t
made_by (Some commit) t = after t commit

-- each commit of the database is durable
abbrev pub is_durable_database : Database → Bool
is_durable_database d = not (nat_lt d.durable d.made)
