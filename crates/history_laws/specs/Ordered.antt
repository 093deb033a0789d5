-- That the tables which scripts create have their fields in order.
use Rattle.std.specs.Prelude.{List, Bool, true}
use Rattle.std.specs.List.{list_all}
use Rattle.payload_records.specs.Order.{is_in_order}
use Rattle.queue_rows.specs.declared.statement.Statement.{Statement}
use Rattle.queue_rows.specs.declared.statement.Statement.TheVariants as statements
use Rattle.queue_rows.specs.declared.statement.Admin.{Admin}
use Rattle.queue_rows.specs.declared.statement.Admin.TheVariants as asks
use Rattle.queue_rows.specs.declared.history.SessionScript.{SessionScript}

-- the fields of a table that it creates stand in the order of their names, each name once
abbrev pub asks_ordered : Admin → Bool
asks_ordered (asks.CreateTable table fields sort multi grouped) = is_in_order fields
asks_ordered _ = true

abbrev pub is_ordered : Statement → Bool
is_ordered (statements.Admin ask) = asks_ordered ask
is_ordered _ = true

-- so do those of all tables that the scripts create
abbrev pub are_ordered : List SessionScript → Bool
are_ordered scripts = list_all (λ script. list_all is_ordered script.statements) scripts
