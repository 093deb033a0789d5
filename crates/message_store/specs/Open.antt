-- The tables of a database while a commit is made.
use Rattle.queue_rows.specs.declared.tables.Tables.{Tables}
use Rattle.message_store.specs.Room.{Room}
use Rattle.message_store.specs.declared.open.OpenTables.{OpenTables}

-- what they hold
abbrev pub held : OpenTables → Tables
held o = record {
  tables = o.tables.items;
  queues = o.queues.items;
  subs = o.subs.items;
  schedules = o.schedules.items;
  messages = o.messages.items;
  seen = o.seen.items;
  next = o.next;
  transaction = o.transaction;
  latest = o.latest;
}

-- for how much more there is memory
abbrev pub room_of : OpenTables → Room
room_of o = record {
  tables = o.tables.room;
  queues = o.queues.room;
  subs = o.subs.room;
  schedules = o.schedules.room;
  messages = o.messages.room;
  seen = o.seen.room;
  slots = o.slots.items;
}
