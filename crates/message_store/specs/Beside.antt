-- What is kept beside tables, for the commit to come.
use Rattle.std.specs.Prelude.{◌-◌, length, min}
use Rattle.std.below.core.specs.declared.int.usize.TheConstants.{MAX}
use Rattle.queue_rows.specs.declared.tables.Tables.{Tables}
use Rattle.message_store.specs.Room.{Room}
use Rattle.message_store.specs.declared.beside.Beside.{Beside}

-- for how much more there is memory beside the tables
abbrev pub room_beside : Tables → Beside → Room
room_beside t b = record {
  tables = min b.tables (MAX - length t.tables);
  queues = min b.queues (MAX - length t.queues);
  subs = min b.subs (MAX - length t.subs);
  schedules = b.schedules - length t.schedules;
  messages = b.index.room;
  seen = min b.seen (MAX - length t.seen);
  slots = b.slots.items;
}
