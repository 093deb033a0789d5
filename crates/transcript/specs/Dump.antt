-- The text of a database's tables.
use Rattle.std.specs.Prelude.{ℕ, ◌++◌, List}
use Rattle.std.specs.List.{flat_map}
use Rattle.aq_base.specs.declared.DbId.{DbId}
use Rattle.queue_rows.specs.declared.tables.Tables.{Tables}
use Rattle.transcript.specs.Messages.{message_lines}
use Rattle.transcript.specs.Rows.{database_line, table_line, queue_line, sub_line, schedule_line, seen_line}

-- the database with its counters; then a line for each row, in the order of the lists, each message before its slots
unfoldable pub print_tables : DbId → Tables → List ℕ
print_tables db t =
    database_line db t ++ flat_map table_line t.tables ++ flat_map queue_line t.queues ++ flat_map sub_line t.subs
    ++ flat_map schedule_line t.schedules ++ flat_map (message_lines db t) t.messages ++ flat_map (seen_line db) t.seen
