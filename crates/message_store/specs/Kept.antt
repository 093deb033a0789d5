-- What is seen of tables with what is kept beside them.
use Rattle.std.specs.Prelude.{ℕ, List}
use Rattle.queue_rows.specs.declared.tables.Tables.{Tables}
use Rattle.message_store.specs.Room.{Room}

-- the tables, for how much more there is memory, and the stamps of the messages in their order
pub record Kept : Type 0 where
  pub tables : Tables
  pub room : Room
  pub stamps : List ℕ
