-- An example of a beginning: tables with a message at one database, a table of which no queue is left at the other one, and a session
-- that creates a table.
use Rattle.std.specs.Prelude.{List, [], ◌∷◌, false, codes}
use Rattle.aq_base.specs.declared.DbId.TheVariants.{Home}
use Rattle.payload_records.specs.declared.kind.Kind.TheVariants.{Num}
use Rattle.queue_rows.specs.declared.history.SessionScript.{SessionScript}
use Rattle.queue_rows.specs.declared.statement.Admin.TheVariants.{CreateTable}
use Rattle.queue_rows.specs.declared.statement.Statement.TheVariants.{Admin, Commit}
use Rattle.valid_laws.specs.Examples.{example_tables, example_left}
use Rattle.history_laws.specs.WorldLaws.{MayBegin}

abbrev pub example_scripts : List SessionScript
example_scripts = record { name = codes "a"; at = Home; statements = Admin (CreateTable (codes "u") (record { name = codes "f"; kind = Num } ∷ []) [] false false) ∷ Commit ∷ [] } ∷ []

-- A history may begin so; so its first world is valid.
abbrev pub ExampleBegins : Type 0
ExampleBegins = MayBegin example_tables example_left example_scripts
